-- Two edges: where points of both are close, two ends are close to the other edge, or the lines are close between the ends
use Rattle.std.proofs.Common.{zero, suc, ◌≡◌, ◌⊎◌, inl, inr, arith, ℤ, pos, negsuc, ◌+ℤ◌, ◌-ℤ◌, ◌*ℤ◌, ◌≤ℤ◌, ◌<ℤ◌, refl, ap, ◌∙◌, subst, List, [], ◌∷◌}
use Rattle.std.proofs.lemmas.Int.{ints, by_lt_z}
use Rattle.exact_arith.specs.Space.{Vector, plus, minus, times, dot_of, cross_of, Face, nowhere}
use Rattle.tri_exact.specs.Within.{mix2}
use Rattle.tri_exact.specs.Foot.{square_of, height_of}
use Rattle.tri_exact.specs.Edges.{LinesClose}
use Rattle.exact_arith.proofs.Ring.{ring, at, lit, ◌⊕◌, ◌⊖◌, ◌⊗◌}
use Rattle.exact_arith.proofs.Triples.{Coords, spot, ◌⊟◌, ◌⊡◌, scalar, crossed}
use Rattle.exact_arith.proofs.Order.{square_nonneg, certify, rest}
use Rattle.tri_exact.proofs.Pose.{Pose, Shift, gap, aim, IsClose, vector, same_vector, length_nonneg}
use Rattle.tri_exact.proofs.Weights.{Six, a1, a2, a3, b1, b2, b3, weight, change, NoNegative, In, Next, free_slide, towards_slide}
use Rattle.tri_exact.proofs.Reach.{lines_pose, lines_aim, lines_gap}

abbrev pub edge_face : Vector → Vector → Face
edge_face a b = record { a = a; b = b; c = b }

abbrev pub edges_pose : ℤ → ℤ → ℤ → Pose
edges_pose n x y = record { n = n; a2 = x; a3 = pos 0; b2 = y; b3 = pos 0 }

-- a point of ab and one of pq, whose distance squared is at most d
pub record EdgesClose (a b p q : Vector) (d : ℤ) : Type 0 where
  pub n : ℤ
  pub x : ℤ
  pub y : ℤ
  pub close : IsClose (edge_face a b) (edge_face p q) d (edges_pose n x y)
  pub nonneg : NoNegative (edges_pose n x y)

-- a point of ab whose distance squared from p is at most d
pub record PointClose (p a b : Vector) (d : ℤ) : Type 0 where
  pub n : ℤ
  pub j : ℤ
  pub n_positive : pos 0 <ℤ n
  pub j_in : pos 0 ≤ℤ j
  pub rest_in : pos 0 ≤ℤ (n -ℤ j)
  pub within : dot_of (minus (times n p) (mix2 a b (n -ℤ j) j)) (minus (times n p) (mix2 a b (n -ℤ j) j)) ≤ℤ (d *ℤ (n *ℤ n))

pub data EdgesFound (a b p q : Vector) (d : ℤ) : Type 0 where
  lines : LinesClose a b p q d → EdgesFound a b p q d
  end_a : PointClose a p q d → EdgesFound a b p q d
  end_b : PointClose b p q d → EdgesFound a b p q d
  end_p : PointClose p a b d → EdgesFound a b p q d
  end_q : PointClose q a b d → EdgesFound a b p q d

-- the height's square, from the aim's gap
pub height_low : (h d : ℤ) (v : Vector) → pos 0 <ℤ dot_of v v → dot_of (times (pos 0 -ℤ h) v) (times (pos 0 -ℤ h) v) ≤ℤ (d *ℤ (dot_of v v *ℤ dot_of v v)) → (h *ℤ h) ≤ℤ (d *ℤ dot_of v v)
height_low h d v hv k =
    let th = at 0 in let td = at 1 in let tv = spot 2 in let u = (lit (pos 0) ⊖ th) ⊡ tv in
    certify (h ∷ d ∷ v.x ∷ v.y ∷ v.z ∷ []) (scalar tv tv) (th ⊗ th) (td ⊗ scalar tv tv) (td ⊗ (scalar tv tv ⊗ scalar tv tv) ⊖ scalar u u) hv refl (rest _ _ k)

-- ---- directions that are parallel
square_zero : (x y z : ℤ) → x *ℤ x +ℤ y *ℤ y +ℤ z *ℤ z ≡ pos 0 → x ≡ pos 0
square_zero (pos zero) y z e = refl
square_zero (pos (suc n)) y z e = absurd (let f = square_nonneg y in let g = square_nonneg z in omega (arith, ints, e, f, g))
square_zero (negsuc n) y z e = absurd (let f = square_nonneg y in let g = square_nonneg z in omega (arith, ints, e, f, g))

turned : (x y z : ℤ) → y *ℤ y +ℤ z *ℤ z +ℤ x *ℤ x ≡ x *ℤ x +ℤ y *ℤ y +ℤ z *ℤ z
turned x y z = ring (x ∷ y ∷ z ∷ []) (at 1 ⊗ at 1 ⊕ at 2 ⊗ at 2 ⊕ at 0 ⊗ at 0) (at 0 ⊗ at 0 ⊕ at 1 ⊗ at 1 ⊕ at 2 ⊗ at 2) refl

pub no_length : (v : Vector) → dot_of v v ≡ pos 0 → v ≡ nowhere
no_length v e =
    same_vector v nowhere (square_zero v.x v.y v.z e) (square_zero v.y v.z v.x (turned v.x v.y v.z ∙ e)) (square_zero v.z v.x v.y (turned v.y v.z v.x ∙ turned v.x v.y v.z ∙ e))

twice_crossed : (e u : Vector) → minus (times (dot_of u u) e) (times (dot_of e u) u) ≡ cross_of u (cross_of e u)
twice_crossed e u =
    let a = spot 0 in let b = spot 3 in let v = crossed b (crossed a b) in let w = scalar b b ⊡ a ⊟ scalar a b ⊡ b in
    let env : List ℤ = e.x ∷ e.y ∷ e.z ∷ u.x ∷ u.y ∷ u.z ∷ [] in
    same_vector (minus (times (dot_of u u) e) (times (dot_of e u) u)) (cross_of u (cross_of e u))
    (ring env w.x v.x refl) (ring env w.y v.y refl) (ring env w.z v.z refl)

crossed_nowhere : (u : Vector) → cross_of u nowhere ≡ nowhere
crossed_nowhere u =
    let b = spot 0 in let o = lit (pos 0) in let none : Coords = record { x = o; y = o; z = o } in let v = crossed b none in
    let env : List ℤ = u.x ∷ u.y ∷ u.z ∷ [] in
    same_vector (cross_of u nowhere) nowhere (ring env v.x o refl) (ring env v.y o refl) (ring env v.z o refl)

pub parallel : (e u : Vector) → square_of e u ≡ pos 0 → minus (times (dot_of u u) e) (times (dot_of e u) u) ≡ nowhere
parallel e u z = twice_crossed e u ∙ ap (λ (v : Vector). cross_of u v) (no_length (cross_of e u) z) ∙ crossed_nowhere u

-- ---- one coordinate
plain : (a e b u x y : ℤ) → a *ℤ e +ℤ pos 0 *ℤ x -ℤ (b *ℤ u +ℤ pos 0 *ℤ y) ≡ a *ℤ e -ℤ b *ℤ u
plain a e b u x y = ring (a ∷ e ∷ b ∷ u ∷ x ∷ y ∷ []) (at 0 ⊗ at 1 ⊕ lit (pos 0) ⊗ at 4 ⊖ (at 2 ⊗ at 3 ⊕ lit (pos 0) ⊗ at 5)) (at 0 ⊗ at 1 ⊖ at 2 ⊗ at 3) refl

pub plain_drift : (x y e u : Vector) (a b : ℤ) → minus (times a e) (times b u) ≡ nowhere → minus (plus (times a e) (times (pos 0) x)) (plus (times b u) (times (pos 0) y)) ≡ nowhere
plain_drift x y e u a b z =
    same_vector (minus (plus (times a e) (times (pos 0) x)) (plus (times b u) (times (pos 0) y))) (minus (times a e) (times b u))
    (plain a e.x b u.x x.x y.x) (plain a e.y b u.y x.y y.y) (plain a e.z b u.z x.z y.z) ∙ z

-- ---- to a point and an edge
pub same_pose : (w : Pose) → w.a3 ≡ pos 0 → w.b3 ≡ pos 0 → w ≡ edges_pose w.n w.a2 w.b2
same_pose w e f =
    let part : ℤ → ℤ → Pose = λ (x : ℤ) (y : ℤ). record { n = w.n; a2 = w.a2; a3 = x; b2 = w.b2; b3 = y } in
    ap (λ (x : ℤ). part x w.b3) e ∙ ap (λ (y : ℤ). part (pos 0) y) f

pub edges_of : (a b p q : Vector) (d : ℤ) (w : Pose) → IsClose (edge_face a b) (edge_face p q) d w → NoNegative w → w.a3 ≡ pos 0 → w.b3 ≡ pos 0 → EdgesClose a b p q d
edges_of a b p q d w c nn e f =
    let s = same_pose w e f in
    record { n = w.n; x = w.a2; y = w.b2; close = subst (λ (v : Pose). IsClose (edge_face a b) (edge_face p q) d v) s c; nonneg = subst (λ (v : Pose). NoNegative v) s nn }

-- the end with the whole weight
pub near_a : (n y a b p q : ℤ) → (n -ℤ pos 0 -ℤ pos 0) *ℤ a +ℤ pos 0 *ℤ b +ℤ pos 0 *ℤ b -ℤ ((n -ℤ y -ℤ pos 0) *ℤ p +ℤ y *ℤ q +ℤ pos 0 *ℤ q) ≡ n *ℤ a -ℤ ((n -ℤ y) *ℤ p +ℤ y *ℤ q)
near_a n y a b p q =
    let o = lit (pos 0) in
    ring (n ∷ y ∷ a ∷ b ∷ p ∷ q ∷ []) ((at 0 ⊖ o ⊖ o) ⊗ at 2 ⊕ o ⊗ at 3 ⊕ o ⊗ at 3 ⊖ ((at 0 ⊖ at 1 ⊖ o) ⊗ at 4 ⊕ at 1 ⊗ at 5 ⊕ o ⊗ at 5)) (at 0 ⊗ at 2 ⊖ ((at 0 ⊖ at 1) ⊗ at 4 ⊕ at 1 ⊗ at 5)) refl

pub near_b : (n y a b p q : ℤ) → (n -ℤ n -ℤ pos 0) *ℤ a +ℤ n *ℤ b +ℤ pos 0 *ℤ b -ℤ ((n -ℤ y -ℤ pos 0) *ℤ p +ℤ y *ℤ q +ℤ pos 0 *ℤ q) ≡ n *ℤ b -ℤ ((n -ℤ y) *ℤ p +ℤ y *ℤ q)
near_b n y a b p q =
    let o = lit (pos 0) in
    ring (n ∷ y ∷ a ∷ b ∷ p ∷ q ∷ []) ((at 0 ⊖ at 0 ⊖ o) ⊗ at 2 ⊕ at 0 ⊗ at 3 ⊕ o ⊗ at 3 ⊖ ((at 0 ⊖ at 1 ⊖ o) ⊗ at 4 ⊕ at 1 ⊗ at 5 ⊕ o ⊗ at 5)) (at 0 ⊗ at 3 ⊖ ((at 0 ⊖ at 1) ⊗ at 4 ⊕ at 1 ⊗ at 5)) refl

pub near_p : (n x a b p q : ℤ) → (n -ℤ x -ℤ pos 0) *ℤ a +ℤ x *ℤ b +ℤ pos 0 *ℤ b -ℤ ((n -ℤ pos 0 -ℤ pos 0) *ℤ p +ℤ pos 0 *ℤ q +ℤ pos 0 *ℤ q) ≡ pos 0 -ℤ (n *ℤ p -ℤ ((n -ℤ x) *ℤ a +ℤ x *ℤ b))
near_p n x a b p q =
    let o = lit (pos 0) in
    ring (n ∷ x ∷ a ∷ b ∷ p ∷ q ∷ []) ((at 0 ⊖ at 1 ⊖ o) ⊗ at 2 ⊕ at 1 ⊗ at 3 ⊕ o ⊗ at 3 ⊖ ((at 0 ⊖ o ⊖ o) ⊗ at 4 ⊕ o ⊗ at 5 ⊕ o ⊗ at 5)) (o ⊖ (at 0 ⊗ at 4 ⊖ ((at 0 ⊖ at 1) ⊗ at 2 ⊕ at 1 ⊗ at 3))) refl

pub near_q : (n x a b p q : ℤ) → (n -ℤ x -ℤ pos 0) *ℤ a +ℤ x *ℤ b +ℤ pos 0 *ℤ b -ℤ ((n -ℤ n -ℤ pos 0) *ℤ p +ℤ n *ℤ q +ℤ pos 0 *ℤ q) ≡ pos 0 -ℤ (n *ℤ q -ℤ ((n -ℤ x) *ℤ a +ℤ x *ℤ b))
near_q n x a b p q =
    let o = lit (pos 0) in
    ring (n ∷ x ∷ a ∷ b ∷ p ∷ q ∷ []) ((at 0 ⊖ at 1 ⊖ o) ⊗ at 2 ⊕ at 1 ⊗ at 3 ⊕ o ⊗ at 3 ⊖ ((at 0 ⊖ at 0 ⊖ o) ⊗ at 4 ⊕ at 0 ⊗ at 5 ⊕ o ⊗ at 5)) (o ⊖ (at 0 ⊗ at 5 ⊖ ((at 0 ⊖ at 1) ⊗ at 2 ⊕ at 1 ⊗ at 3))) refl

abbrev pub opposite : Vector → Vector
opposite v = vector (pos 0 -ℤ v.x) (pos 0 -ℤ v.y) (pos 0 -ℤ v.z)

pub opposite_square : (v : Vector) → dot_of (opposite v) (opposite v) ≡ dot_of v v
opposite_square v =
    let t = spot 0 in let o = lit (pos 0) in let u : Coords = record { x = o ⊖ at 0; y = o ⊖ at 1; z = o ⊖ at 2 } in
    ring (v.x ∷ v.y ∷ v.z ∷ []) (scalar u u) (scalar t t) refl

pub square_along : (v w : Vector) (x : ℤ) → v ≡ w → dot_of v v ≤ℤ x → dot_of w w ≤ℤ x
square_along v w x e h = subst (λ (u : Vector). dot_of u u ≤ℤ x) e h

pub square_across : (v w : Vector) (x : ℤ) → v ≡ opposite w → dot_of v v ≤ℤ x → dot_of w w ≤ℤ x
square_across v w x e h = subst (λ (u : ℤ). u ≤ℤ x) (opposite_square w) (square_along v (opposite w) x e h)

pub falling : (g : ℤ) → pos 0 <ℤ g → pos 0 ≤ℤ (pos 0 -ℤ g -ℤ pos 0) → ⊥
falling g h k = omega (arith, ints)

pub flat_zero : (g : ℤ) → g ≤ℤ pos 0 → pos 0 ≤ℤ g → g ≡ pos 0
flat_zero g h k = omega (arith, ints)

none_of : (e x y : ℤ) → pos 0 *ℤ e +ℤ pos 0 *ℤ x -ℤ (pos 1 *ℤ pos 0 +ℤ pos 0 *ℤ y) ≡ pos 0
none_of e x y = omega (arith, ints)

pub point_drift : (x y e u : Vector) → u ≡ nowhere → minus (plus (times (pos 0) e) (times (pos 0) x)) (plus (times (pos 1) u) (times (pos 0) y)) ≡ nowhere
point_drift x y e u z =
    ap (λ (v : Vector). minus (plus (times (pos 0) e) (times (pos 0) x)) (plus (times (pos 1) v) (times (pos 0) y))) z
    ∙ same_vector _ nowhere (none_of e.x x.x y.x) (none_of e.y x.y y.y) (none_of e.z x.z y.z)

module _ (a b p q : Vector) (d : ℤ) where
  at_a : (n y : ℤ) → IsClose (edge_face a b) (edge_face p q) d (edges_pose n (pos 0) y) → pos 0 ≤ℤ y → pos 0 ≤ℤ (n -ℤ y) → PointClose a p q d
  at_a n y c h k =
      record {
        n = n;
        j = y;
        n_positive = c.n_positive;
        j_in = h;
        rest_in = k;
        within = square_along _ (minus (times n a) (mix2 p q (n -ℤ y) y)) (d *ℤ (n *ℤ n))
            (same_vector (gap (edge_face a b) (edge_face p q) (edges_pose n (pos 0) y)) (minus (times n a) (mix2 p q (n -ℤ y) y)) (near_a n y a.x b.x p.x q.x) (near_a n y a.y b.y p.y q.y) (near_a n y a.z b.z p.z q.z)) c.within;
      }

  at_b : (n y : ℤ) → IsClose (edge_face a b) (edge_face p q) d (edges_pose n n y) → pos 0 ≤ℤ y → pos 0 ≤ℤ (n -ℤ y) → PointClose b p q d
  at_b n y c h k =
      record {
        n = n;
        j = y;
        n_positive = c.n_positive;
        j_in = h;
        rest_in = k;
        within = square_along _ (minus (times n b) (mix2 p q (n -ℤ y) y)) (d *ℤ (n *ℤ n))
            (same_vector (gap (edge_face a b) (edge_face p q) (edges_pose n n y)) (minus (times n b) (mix2 p q (n -ℤ y) y)) (near_b n y a.x b.x p.x q.x) (near_b n y a.y b.y p.y q.y) (near_b n y a.z b.z p.z q.z)) c.within;
      }

  at_p : (n x : ℤ) → IsClose (edge_face a b) (edge_face p q) d (edges_pose n x (pos 0)) → pos 0 ≤ℤ x → pos 0 ≤ℤ (n -ℤ x) → PointClose p a b d
  at_p n x c h k =
      record {
        n = n;
        j = x;
        n_positive = c.n_positive;
        j_in = h;
        rest_in = k;
        within = square_across _ (minus (times n p) (mix2 a b (n -ℤ x) x)) (d *ℤ (n *ℤ n))
            (same_vector (gap (edge_face a b) (edge_face p q) (edges_pose n x (pos 0))) (opposite (minus (times n p) (mix2 a b (n -ℤ x) x))) (near_p n x a.x b.x p.x q.x) (near_p n x a.y b.y p.y q.y) (near_p n x a.z b.z p.z q.z)) c.within;
      }

  at_q : (n x : ℤ) → IsClose (edge_face a b) (edge_face p q) d (edges_pose n x n) → pos 0 ≤ℤ x → pos 0 ≤ℤ (n -ℤ x) → PointClose q a b d
  at_q n x c h k =
      record {
        n = n;
        j = x;
        n_positive = c.n_positive;
        j_in = h;
        rest_in = k;
        within = square_across _ (minus (times n q) (mix2 a b (n -ℤ x) x)) (d *ℤ (n *ℤ n))
            (same_vector (gap (edge_face a b) (edge_face p q) (edges_pose n x n)) (opposite (minus (times n q) (mix2 a b (n -ℤ x) x))) (near_q n x a.x b.x p.x q.x) (near_q n x a.y b.y p.y q.y) (near_q n x a.z b.z p.z q.z)) c.within;
      }

  -- a close pose of the edges with a weight that is 0
  ended : (v : EdgesClose a b p q d) (i : Six) → In i (a1 ∷ a2 ∷ b1 ∷ b2 ∷ []) → weight i (edges_pose v.n v.x v.y) ≡ pos 0 → EdgesFound a b p q d
  ended v a1 h e =
      let s : v.x ≡ v.n = omega (arith, ints) in
      let l = v.nonneg b2 in let k : pos 0 ≤ℤ (v.n -ℤ v.y) = omega (arith, ints, v.nonneg b1) in
      end_b (at_b v.n v.y (subst (λ (x : ℤ). IsClose (edge_face a b) (edge_face p q) d (edges_pose v.n x v.y)) s v.close) l k)
  ended v a2 h e =
      let l = v.nonneg b2 in let k : pos 0 ≤ℤ (v.n -ℤ v.y) = omega (arith, ints, v.nonneg b1) in
      end_a (at_a v.n v.y (subst (λ (x : ℤ). IsClose (edge_face a b) (edge_face p q) d (edges_pose v.n x v.y)) e v.close) l k)
  ended v a3 (inl h) e = absurd (cc h)
  ended v a3 (inr (inl h)) e = absurd (cc h)
  ended v a3 (inr (inr (inl h))) e = absurd (cc h)
  ended v a3 (inr (inr (inr (inl h)))) e = absurd (cc h)
  ended v a3 (inr (inr (inr (inr h)))) e = absurd h
  ended v b1 h e =
      let s : v.y ≡ v.n = omega (arith, ints) in
      let l = v.nonneg a2 in let k : pos 0 ≤ℤ (v.n -ℤ v.x) = omega (arith, ints, v.nonneg a1) in
      end_q (at_q v.n v.x (subst (λ (y : ℤ). IsClose (edge_face a b) (edge_face p q) d (edges_pose v.n v.x y)) s v.close) l k)
  ended v b2 h e =
      let l = v.nonneg a2 in let k : pos 0 ≤ℤ (v.n -ℤ v.x) = omega (arith, ints, v.nonneg a1) in
      end_p (at_p v.n v.x (subst (λ (y : ℤ). IsClose (edge_face a b) (edge_face p q) d (edges_pose v.n v.x y)) e v.close) l k)
  ended v b3 (inl h) e = absurd (cc h)
  ended v b3 (inr (inl h)) e = absurd (cc h)
  ended v b3 (inr (inr (inl h))) e = absurd (cc h)
  ended v b3 (inr (inr (inr (inl h)))) e = absurd (cc h)
  ended v b3 (inr (inr (inr (inr h)))) e = absurd h

  next_ended : (w : Pose) (o : Shift) (r : Next (edge_face a b) (edge_face p q) d w o (a1 ∷ a2 ∷ b1 ∷ b2 ∷ [])) → w.a3 ≡ pos 0 → w.b3 ≡ pos 0 → o.a3 ≡ pos 0 → o.b3 ≡ pos 0 → EdgesFound a b p q d
  unfolding edges_of
  next_ended w o r e f g h =
      let e' = r.kept a3 e g in let f' = r.kept b3 f h in
      let s = same_pose r.pose e' f' in
      ended (edges_of a b p q d r.pose r.close r.nonneg e' f') r.gone.0 r.gone.1 (subst (λ (v : Pose). weight r.gone.0 v ≡ pos 0) s r.gone.2)

  nothing : (n m : ℤ) → pos 0 *ℤ n -ℤ pos 0 *ℤ m ≡ pos 0
  nothing n m = omega (arith, ints)

  slanted_found : (v : EdgesClose a b p q d) → pos 0 <ℤ square_of (minus b a) (minus q p) → EdgesFound a b p q d
  slanted_found v hf =
      let w = edges_pose v.n v.x v.y in
      let f = lines_pose a b p q in
      elim (towards_slide (edge_face a b) (edge_face p q) d w f (a1 ∷ a2 ∷ b1 ∷ b2 ∷ []) v.close v.nonneg hf (lines_aim (edge_face a b) (edge_face p q) v.n v.x v.y)
      (λ i. elim i as (λ (i : Six). In i (a1 ∷ a2 ∷ b1 ∷ b2 ∷ []) ⊎ (change i (aim w f) ≡ pos 0)) [
        | a1 ↦ inl (inl refl)
        | a2 ↦ inl (inr (inl refl))
        | a3 ↦ inr (nothing w.n f.n)
        | b1 ↦ inl (inr (inr (inl refl)))
        | b2 ↦ inl (inr (inr (inr (inl refl))))
        | b3 ↦ inr (nothing w.n f.n)
      ])) [
        | inl r ↦
            let e = minus b a in let u = minus q p in let k = minus p a in
            lines (record {
              slanted = hf;
              along_in = r.0 a2;
              along_end = omega (arith, ints, r.0 a1);
              across_in = omega (arith, ints, r.0 b2);
              across_end = omega (arith, ints, r.0 b1);
              low = height_low (height_of e u k) d (cross_of e u) hf (square_along _ _ _ (lines_gap (edge_face a b) (edge_face p q)) r.1.within);
            })
        | inr r ↦ next_ended w (aim w f) r refl refl (nothing w.n f.n) (nothing w.n f.n)
      ]

  -- both edges along one direction
  parallel_found : (v : EdgesClose a b p q d) → square_of (minus b a) (minus q p) ≡ pos 0 → EdgesFound a b p q d
  parallel_found v hf =
      let e = minus b a in let u = minus q p in
      let w = edges_pose v.n v.x v.y in
      by_lt_z (pos 0) (dot_of u u)
      (λ g.
      let o : Shift = record { a2 = dot_of u u; a3 = pos 0; b2 = dot_of e u; b3 = pos 0 } in
      let r = free_slide (edge_face a b) (edge_face p q) d w o (a1 ∷ a2 ∷ b1 ∷ b2 ∷ []) v.close v.nonneg (plain_drift e u e u (dot_of u u) (dot_of e u) (parallel e u hf))
      (λ i. elim i as (λ (i : Six). In i (a1 ∷ a2 ∷ b1 ∷ b2 ∷ []) ⊎ (change i o ≡ pos 0)) [ a1 ↦ inl (inl refl) | a2 ↦ inl (inr (inl refl)) | a3 ↦ inr refl | b1 ↦ inl (inr (inr (inl refl))) | b2 ↦ inl (inr (inr (inr (inl refl)))) | b3 ↦ inr refl ])
      (λ n. falling (dot_of u u) g n.0) in
      next_ended w o r refl refl refl refl)
      (λ g.
      let z = no_length u (flat_zero (dot_of u u) g (length_nonneg u)) in
      let o : Shift = record { a2 = pos 0; a3 = pos 0; b2 = pos 1; b3 = pos 0 } in
      let r = free_slide (edge_face a b) (edge_face p q) d w o (a1 ∷ a2 ∷ b1 ∷ b2 ∷ []) v.close v.nonneg (point_drift e u e u z)
      (λ i. elim i as (λ (i : Six). In i (a1 ∷ a2 ∷ b1 ∷ b2 ∷ []) ⊎ (change i o ≡ pos 0)) [ a1 ↦ inl (inl refl) | a2 ↦ inl (inr (inl refl)) | a3 ↦ inr refl | b1 ↦ inl (inr (inr (inl refl))) | b2 ↦ inl (inr (inr (inr (inl refl)))) | b3 ↦ inr refl ])
      (λ n. falling (pos 1) (omega (arith, ints)) n.1.1.0) in
      next_ended w o r refl refl refl refl)

  pub edges_found : EdgesClose a b p q d → EdgesFound a b p q d
  edges_found v =
      let e = minus b a in let u = minus q p in
      by_lt_z (pos 0) (square_of e u) (λ h. slanted_found v h) (λ h. parallel_found v (flat_zero (square_of e u) h (length_nonneg (cross_of e u))))
