-- Two faces: from points of both that are close, by slides, to two edges, a corner over a face, or an edge through a face
use Rattle.std.proofs.Common.{zero, suc, ◌≡◌, ◌⊎◌, inl, inr, arith, ℤ, pos, negsuc, ◌+ℤ◌, ◌-ℤ◌, ◌*ℤ◌, ◌≤ℤ◌, ◌<ℤ◌, refl, sym, ap, ◌∙◌, subst, List, [], ◌∷◌}
use Rattle.std.proofs.lemmas.Int.{ints, by_lt_z}
use Rattle.exact_arith.specs.Space.{Vector, plus, minus, times, dot_of, cross_of, Face, nowhere}
use Rattle.tri_exact.specs.Within.{mix3, HasArea}
use Rattle.tri_exact.specs.Foot.{square_of, along_of, across_of, height_of}
use Rattle.tri_exact.specs.Pierce.{weight_b, weight_c}
use Rattle.tri_exact.proofs.Pierce.{depth, slope, slope_is, pierce_pose, pierce_aims}
use Rattle.exact_arith.proofs.Ring.{ring, at, lit, ◌⊕◌, ◌⊖◌, ◌⊗◌}
use Rattle.exact_arith.proofs.Triples.{Coords, spot, ◌⊟◌, ◌⊡◌, scalar, crossed}
use Rattle.exact_arith.proofs.Order.{nonneg_by}
use Rattle.tri_exact.proofs.Pose.{Pose, Shift, gap, drift, aim, IsClose, same_vector, length_nonneg}
use Rattle.tri_exact.proofs.Weights.{Six, a1, a2, a3, b1, b2, b3, weight, change, NoNegative, In, Next, free_slide, towards_slide}
use Rattle.tri_exact.proofs.Reach.{foot_pose, foot_aims, foot_gap, upright_first, split_x, split_y, split_z}
use Rattle.tri_exact.proofs.TwoEdges.{edge_face, edges_pose, EdgesClose, height_low, no_length, parallel, opposite, opposite_square, flat_zero, same_pose, falling}

pub data Corner : Type 0 where
  ca : Corner
  cb : Corner
  cc : Corner

abbrev pub corner : Corner → Face → Vector
corner ca t = t.a
corner cb t = t.b
corner cc t = t.c

abbrev pub next : Corner → Corner
next ca = cb
next cb = cc
next cc = ca

abbrev pub turn : Face → Face
turn t = record { a = t.b; b = t.c; c = t.a }

-- the foot of q on t's plane lies in t, and its distance squared is at most d
pub record FootClose (q : Vector) (t : Face) (d : ℤ) : Type 0 where
  pub area : HasArea t
  pub a_in : pos 0 ≤ℤ (square_of (minus t.b t.a) (minus t.c t.a) -ℤ along_of (minus t.b t.a) (minus t.c t.a) (minus q t.a) -ℤ across_of (minus t.b t.a) (minus t.c t.a) (minus q t.a))
  pub b_in : pos 0 ≤ℤ along_of (minus t.b t.a) (minus t.c t.a) (minus q t.a)
  pub c_in : pos 0 ≤ℤ across_of (minus t.b t.a) (minus t.c t.a) (minus q t.a)
  pub low : (height_of (minus t.b t.a) (minus t.c t.a) (minus q t.a) *ℤ height_of (minus t.b t.a) (minus t.c t.a) (minus q t.a)) ≤ℤ (d *ℤ square_of (minus t.b t.a) (minus t.c t.a))

-- the segment pq goes through t, upwards for k = 1 and downwards for k = -1
pub record Pierces (k : ℤ) (p q : Vector) (t : Face) : Type 0 where
  pub steep : pos 0 <ℤ (k *ℤ slope p q t)
  pub in_a : pos 0 ≤ℤ (k *ℤ slope p q t -ℤ k *ℤ weight_b p q t -ℤ k *ℤ weight_c p q t)
  pub in_b : pos 0 ≤ℤ (k *ℤ weight_b p q t)
  pub in_c : pos 0 ≤ℤ (k *ℤ weight_c p q t)
  pub after_p : pos 0 ≤ℤ (k *ℤ depth p t)
  pub before_q : pos 0 ≤ℤ (k *ℤ slope p q t -ℤ k *ℤ depth p t)

abbrev pub SomeEdges : Face → Face → ℤ → Type 0
SomeEdges t s d = (i : Corner) × (j : Corner) × EdgesClose (corner i t) (corner (next i) t) (corner j s) (corner (next j) s) d

-- what is found where t has an area and a weight of s is 0
pub data SideFound (t s : Face) (d : ℤ) : Type 0 where
  edges : SomeEdges t s d → SideFound t s d
  foot : (j : Corner) → FootClose (corner j s) t d → SideFound t s d
  through : (k : ℤ) (j : Corner) → (k ≡ pos 1) ⊎ (k ≡ negsuc 0) → Pierces k (corner j s) (corner (next j) s) t → SideFound t s d

turned_edges : (t s : Face) (d : ℤ) → SomeEdges t (turn s) d → SomeEdges t s d
turned_edges t s d (i, ca, x) = (i, cb, x)
turned_edges t s d (i, cb, x) = (i, cc, x)
turned_edges t s d (i, cc, x) = (i, ca, x)

turned_side : (t s : Face) (d : ℤ) → SideFound t (turn s) d → SideFound t s d
turned_side t s d (edges x) = edges (turned_edges t s d x)
turned_side t s d (foot ca x) = foot cb x
turned_side t s d (foot cb x) = foot cc x
turned_side t s d (foot cc x) = foot ca x
turned_side t s d (through k ca y x) = through k cb y x
turned_side t s d (through k cb y x) = through k cc y x
turned_side t s d (through k cc y x) = through k ca y x

-- ---- the two faces in the other order
abbrev pub swap : Pose → Pose
swap w = record { n = w.n; a2 = w.b2; a3 = w.b3; b2 = w.a2; b3 = w.a3 }

abbrev pub across : Six → Six
across a1 = b1
across a2 = b2
across a3 = b3
across b1 = a1
across b2 = a2
across b3 = a3

weight_across : (w : Pose) (i : Six) → weight i (swap w) ≡ weight (across i) w
weight_across w a1 = refl
weight_across w a2 = refl
weight_across w a3 = refl
weight_across w b1 = refl
weight_across w b2 = refl
weight_across w b3 = refl

backwards : (x y : ℤ) → x -ℤ y ≡ pos 0 -ℤ (y -ℤ x)
backwards x y = omega (arith, ints)

back_minus : (u v : Vector) → minus v u ≡ opposite (minus u v)
back_minus u v = same_vector (minus v u) (opposite (minus u v)) (backwards v.x u.x) (backwards v.y u.y) (backwards v.z u.z)

pub swap_close : (t s : Face) (d : ℤ) (w : Pose) → IsClose t s d w → IsClose s t d (swap w)
swap_close t s d w c =
    let g = gap t s w in
    let e : gap s t (swap w) ≡ opposite g = back_minus (mix3 t (w.n -ℤ w.a2 -ℤ w.a3) w.a2 w.a3) (mix3 s (w.n -ℤ w.b2 -ℤ w.b3) w.b2 w.b3) in
    record { n_positive = c.n_positive; within = subst (λ (v : Vector). dot_of v v ≤ℤ (d *ℤ (w.n *ℤ w.n))) (sym e) (subst (λ (x : ℤ). x ≤ℤ (d *ℤ (w.n *ℤ w.n))) (sym (opposite_square g)) c.within) }

pub swap_nonneg : (w : Pose) → NoNegative w → NoNegative (swap w)
swap_nonneg w nn i = nonneg_by (weight i (swap w)) (weight (across i) w) (weight_across w i) (nn (across i))

pub swap_edges : (a b p q : Vector) (d : ℤ) → EdgesClose a b p q d → EdgesClose p q a b d
swap_edges a b p q d v =
    record { n = v.n; x = v.y; y = v.x; close = swap_close (edge_face a b) (edge_face p q) d (edges_pose v.n v.x v.y) v.close; nonneg = swap_nonneg (edges_pose v.n v.x v.y) v.nonneg }

swap_some : (t s : Face) (d : ℤ) → SomeEdges s t d → SomeEdges t s d
swap_some t s d (i, j, x) = (j, i, swap_edges (corner i s) (corner (next i) s) (corner j t) (corner (next j) t) d x)

-- ---- the corners of s in turn
abbrev pub turned : Pose → Pose
turned w = record { n = w.n; a2 = w.a2; a3 = w.a3; b2 = w.b3; b3 = w.n -ℤ w.b2 -ℤ w.b3 }

turned_coordinate : (n x y a b c v w p q r : ℤ) → (n -ℤ x -ℤ y) *ℤ a +ℤ x *ℤ b +ℤ y *ℤ c -ℤ ((n -ℤ w -ℤ (n -ℤ v -ℤ w)) *ℤ q +ℤ w *ℤ r +ℤ (n -ℤ v -ℤ w) *ℤ p) ≡ (n -ℤ x -ℤ y) *ℤ a +ℤ x *ℤ b +ℤ y *ℤ c -ℤ ((n -ℤ v -ℤ w) *ℤ p +ℤ v *ℤ q +ℤ w *ℤ r)
turned_coordinate n x y a b c v w p q r =
    let tn = at 0 in let tx = at 1 in let ty = at 2 in let ta = at 3 in let tb = at 4 in let tc = at 5 in let tv = at 6 in let tw = at 7 in let tp = at 8 in let tq = at 9 in let tr = at 10 in
    ring (n ∷ x ∷ y ∷ a ∷ b ∷ c ∷ v ∷ w ∷ p ∷ q ∷ r ∷ [])
    ((tn ⊖ tx ⊖ ty) ⊗ ta ⊕ tx ⊗ tb ⊕ ty ⊗ tc ⊖ ((tn ⊖ tw ⊖ (tn ⊖ tv ⊖ tw)) ⊗ tq ⊕ tw ⊗ tr ⊕ (tn ⊖ tv ⊖ tw) ⊗ tp))
    ((tn ⊖ tx ⊖ ty) ⊗ ta ⊕ tx ⊗ tb ⊕ ty ⊗ tc ⊖ ((tn ⊖ tv ⊖ tw) ⊗ tp ⊕ tv ⊗ tq ⊕ tw ⊗ tr)) refl

pub turned_close : (t s : Face) (d : ℤ) (w : Pose) → IsClose t s d w → IsClose t (turn s) d (turned w)
turned_close t s d w c =
    let e : gap t (turn s) (turned w) ≡ gap t s w = same_vector (gap t (turn s) (turned w)) (gap t s w)
    (turned_coordinate w.n w.a2 w.a3 t.a.x t.b.x t.c.x w.b2 w.b3 s.a.x s.b.x s.c.x)
    (turned_coordinate w.n w.a2 w.a3 t.a.y t.b.y t.c.y w.b2 w.b3 s.a.y s.b.y s.c.y)
    (turned_coordinate w.n w.a2 w.a3 t.a.z t.b.z t.c.z w.b2 w.b3 s.a.z s.b.z s.c.z) in
    record { n_positive = c.n_positive; within = subst (λ (v : Vector). dot_of v v ≤ℤ (d *ℤ (w.n *ℤ w.n))) (sym e) c.within }

first_turned : (n v w : ℤ) → n -ℤ w -ℤ (n -ℤ v -ℤ w) ≡ v
first_turned n v w = omega (arith, ints)

pub turned_nonneg : (w : Pose) → NoNegative w → NoNegative (turned w)
turned_nonneg w nn a1 = nn a1
turned_nonneg w nn a2 = nn a2
turned_nonneg w nn a3 = nn a3
turned_nonneg w nn b1 = nonneg_by _ _ (first_turned w.n w.b2 w.b3) (nn b2)
turned_nonneg w nn b2 = nn b3
turned_nonneg w nn b3 = nn b1

-- ---- a weight of each is 0
abbrev pub ZeroA : Pose → Type 0
ZeroA w = (weight a1 w ≡ pos 0) ⊎ ((weight a2 w ≡ pos 0) ⊎ (weight a3 w ≡ pos 0))

abbrev pub ZeroB : Pose → Type 0
ZeroB w = (weight b1 w ≡ pos 0) ⊎ ((weight b2 w ≡ pos 0) ⊎ (weight b3 w ≡ pos 0))

plain_coordinate : (n x y a b c v p q r : ℤ) → (n -ℤ x -ℤ pos 0) *ℤ a +ℤ x *ℤ b +ℤ pos 0 *ℤ b -ℤ ((n -ℤ v -ℤ pos 0) *ℤ p +ℤ v *ℤ q +ℤ pos 0 *ℤ q) ≡ (n -ℤ x -ℤ pos 0) *ℤ a +ℤ x *ℤ b +ℤ pos 0 *ℤ c -ℤ ((n -ℤ v -ℤ pos 0) *ℤ p +ℤ v *ℤ q +ℤ pos 0 *ℤ r)
plain_coordinate n x y a b c v p q r =
    let tn = at 0 in let tx = at 1 in let ta = at 2 in let tb = at 3 in let tc = at 4 in let tv = at 5 in let tp = at 6 in let tq = at 7 in let tr = at 8 in let o = lit (pos 0) in
    ring (n ∷ x ∷ a ∷ b ∷ c ∷ v ∷ p ∷ q ∷ r ∷ [])
    ((tn ⊖ tx ⊖ o) ⊗ ta ⊕ tx ⊗ tb ⊕ o ⊗ tb ⊖ ((tn ⊖ tv ⊖ o) ⊗ tp ⊕ tv ⊗ tq ⊕ o ⊗ tq)) ((tn ⊖ tx ⊖ o) ⊗ ta ⊕ tx ⊗ tb ⊕ o ⊗ tc ⊖ ((tn ⊖ tv ⊖ o) ⊗ tp ⊕ tv ⊗ tq ⊕ o ⊗ tr)) refl

pub plain_gap : (t s : Face) (n x y : ℤ) → gap (edge_face t.a t.b) (edge_face s.a s.b) (edges_pose n x y) ≡ gap t s (edges_pose n x y)
plain_gap t s n x y =
    let w = edges_pose n x y in
    same_vector (gap (edge_face t.a t.b) (edge_face s.a s.b) w) (gap t s w)
    (plain_coordinate n x y t.a.x t.b.x t.c.x y s.a.x s.b.x s.c.x) (plain_coordinate n x y t.a.y t.b.y t.c.y y s.a.y s.b.y s.c.y) (plain_coordinate n x y t.a.z t.b.z t.c.z y s.a.z s.b.z s.c.z)

plain_close : (t s : Face) (d n x y : ℤ) → IsClose t s d (edges_pose n x y) → IsClose (edge_face t.a t.b) (edge_face s.a s.b) d (edges_pose n x y)
plain_close t s d n x y c =
    let w = edges_pose n x y in
    let e : gap (edge_face t.a t.b) (edge_face s.a s.b) w ≡ gap t s w = same_vector (gap (edge_face t.a t.b) (edge_face s.a s.b) w) (gap t s w)
    (plain_coordinate n x y t.a.x t.b.x t.c.x y s.a.x s.b.x s.c.x) (plain_coordinate n x y t.a.y t.b.y t.c.y y s.a.y s.b.y s.c.y) (plain_coordinate n x y t.a.z t.b.z t.c.z y s.a.z s.b.z s.c.z) in
    record { n_positive = c.n_positive; within = subst (λ (v : Vector). dot_of v v ≤ℤ (d *ℤ (n *ℤ n))) (sym e) c.within }

both_last : (t s : Face) (d : ℤ) (w : Pose) → IsClose t s d w → NoNegative w → w.a3 ≡ pos 0 → w.b3 ≡ pos 0 → SomeEdges t s d
both_last t s d w c nn e f =
    let z = same_pose w e f in
    (ca, ca, record { n = w.n; x = w.a2; y = w.b2; close = plain_close t s d w.n w.a2 w.b2 (subst (λ (v : Pose). IsClose t s d v) z c); nonneg = subst (λ (v : Pose). NoNegative v) z nn })

-- the last weight of t is 0, and some of s
one_last : (t s : Face) (d : ℤ) (w : Pose) → IsClose t s d w → NoNegative w → w.a3 ≡ pos 0 → ZeroB w → SomeEdges t s d
one_last t s d w c nn e (inr (inr z)) = both_last t s d w c nn e z
one_last t s d w c nn e (inl z) = turned_edges t s d (both_last t (turn s) d (turned w) (turned_close t s d w c) (turned_nonneg w nn) e z)
one_last t s d w c nn e (inr (inl z)) =
    let c' = turned_close t (turn s) d (turned w) (turned_close t s d w c) in
    let nn' = turned_nonneg (turned w) (turned_nonneg w nn) in
    turned_edges t s d (turned_edges t (turn s) d (both_last t (turn (turn s)) d (turned (turned w)) c' nn' e (first_turned w.n w.b2 w.b3 ∙ z)))

pub zeros_found : (t s : Face) (d : ℤ) (w : Pose) → IsClose t s d w → NoNegative w → ZeroA w → ZeroB w → SomeEdges t s d
zeros_found t s d w c nn (inr (inr z)) y = one_last t s d w c nn z y
zeros_found t s d w c nn (inl z) y =
    let c' = turned_close s t d (swap w) (swap_close t s d w c) in
    let nn' = turned_nonneg (swap w) (swap_nonneg w nn) in
    swap_some t s d (turned_edges s t d (swap_some s (turn t) d (one_last (turn t) s d (swap (turned (swap w))) (swap_close s (turn t) d (turned (swap w)) c') (swap_nonneg (turned (swap w)) nn') z y)))
zeros_found t s d w c nn (inr (inl z)) y =
    let c' = turned_close s (turn t) d (turned (swap w)) (turned_close s t d (swap w) (swap_close t s d w c)) in
    let nn' = turned_nonneg (turned (swap w)) (turned_nonneg (swap w) (swap_nonneg w nn)) in
    swap_some t s d (turned_edges s t d (turned_edges s (turn t) d (swap_some s (turn (turn t)) d (one_last (turn (turn t)) s d (swap (turned (turned (swap w)))) (swap_close s (turn (turn t)) d (turned (turned (swap w))) c') (swap_nonneg (turned (turned (swap w))) nn') (first_turned w.n w.a2 w.a3 ∙ z) y))))

-- ---- a face with an area, and a point of an edge or a corner
corner_pose : (w : Pose) → w.b2 ≡ pos 0 → w.b3 ≡ pos 0 → w ≡ record { n = w.n; a2 = w.a2; a3 = w.a3; b2 = pos 0; b3 = pos 0 }
corner_pose w e f =
    let part : ℤ → ℤ → Pose = λ (x : ℤ) (y : ℤ). record { n = w.n; a2 = w.a2; a3 = w.a3; b2 = x; b3 = y } in
    ap (λ (x : ℤ). part x w.b3) e ∙ ap (λ (y : ℤ). part (pos 0) y) f

nothing : (n m : ℤ) → pos 0 *ℤ n -ℤ pos 0 *ℤ m ≡ pos 0
nothing n m = omega (arith, ints)

nothing_first : (n m : ℤ) → pos 0 -ℤ (pos 0 *ℤ n -ℤ pos 0 *ℤ m) -ℤ (pos 0 *ℤ n -ℤ pos 0 *ℤ m) ≡ pos 0
nothing_first n m = omega (arith, ints)

zero_in_a : (w : Pose) (i : Six) → In i (a1 ∷ a2 ∷ a3 ∷ []) → weight i w ≡ pos 0 → ZeroA w
zero_in_a w i (inl h) z = inl (subst (λ (l : Six). weight l w ≡ pos 0) h z)
zero_in_a w i (inr (inl h)) z = inr (inl (subst (λ (l : Six). weight l w ≡ pos 0) h z))
zero_in_a w i (inr (inr (inl h))) z = inr (inr (subst (λ (l : Six). weight l w ≡ pos 0) h z))
zero_in_a w i (inr (inr (inr h))) z = absurd h

corner_plain : (t s : Face) (d n x y : ℤ) → HasArea t → let w : Pose = record { n = n; a2 = x; a3 = y; b2 = pos 0; b3 = pos 0 } in IsClose t s d w → NoNegative w → SideFound t s d
corner_plain t s d n x y area c nn =
    let w : Pose = record { n = n; a2 = x; a3 = y; b2 = pos 0; b3 = pos 0 } in
    let f = foot_pose t s.a in
    elim (towards_slide t s d w f (a1 ∷ a2 ∷ a3 ∷ []) c nn area (foot_aims t s n x y)
    (λ i. elim i as (λ (i : Six). In i (a1 ∷ a2 ∷ a3 ∷ []) ⊎ (change i (aim w f) ≡ pos 0)) [
      | a1 ↦ inl (inl refl)
      | a2 ↦ inl (inr (inl refl))
      | a3 ↦ inl (inr (inr (inl refl)))
      | b1 ↦ inr (nothing_first n f.n)
      | b2 ↦ inr (nothing n f.n)
      | b3 ↦ inr (nothing n f.n)
    ])) [
      | inl r ↦
          let e = minus t.b t.a in let u = minus t.c t.a in let k = minus s.a t.a in
          foot ca (record {
            area = area;
            a_in = r.0 a1;
            b_in = r.0 a2;
            c_in = r.0 a3;
            low = height_low (height_of e u k) d (cross_of e u) area (subst (λ (v : Vector). dot_of v v ≤ℤ (d *ℤ (f.n *ℤ f.n))) (foot_gap t s) r.1.within);
          })
      | inr r ↦ edges (zeros_found t s d r.pose r.close r.nonneg (zero_in_a r.pose r.gone.0 r.gone.1 r.gone.2) (inr (inl (r.kept b2 refl (nothing n f.n)))))
    ]

corner_found : (t s : Face) (d : ℤ) (w : Pose) → HasArea t → IsClose t s d w → NoNegative w → w.b2 ≡ pos 0 → w.b3 ≡ pos 0 → SideFound t s d
corner_found t s d w area c nn e f =
    let z = corner_pose w e f in
    corner_plain t s d w.n w.a2 w.a3 area (subst (λ (v : Pose). IsClose t s d v) z c) (subst (λ (v : Pose). NoNegative v) z nn)

edge_pose : (w : Pose) → w.b3 ≡ pos 0 → w ≡ record { n = w.n; a2 = w.a2; a3 = w.a3; b2 = w.b2; b3 = pos 0 }
edge_pose w f =
    let part : ℤ → Pose = λ (y : ℤ). record { n = w.n; a2 = w.a2; a3 = w.a3; b2 = w.b2; b3 = y } in
    ap (λ (y : ℤ). part y) f

-- a pose of a face and an edge with one weight less
edge_next : (t s : Face) (d : ℤ) (w : Pose) (o : Shift) → HasArea t → (r : Next t s d w o (a1 ∷ a2 ∷ a3 ∷ b1 ∷ b2 ∷ [])) → weight b3 r.pose ≡ pos 0 → SideFound t s d
edge_next t s d w o area r z =
    elim r.gone.1 [
      | inl h ↦ edges (zeros_found t s d r.pose r.close r.nonneg (inl (subst (λ (l : Six). weight l r.pose ≡ pos 0) h r.gone.2)) (inr (inr z)))
      | inr h1 ↦ elim h1 [
        | inl h ↦ edges (zeros_found t s d r.pose r.close r.nonneg (inr (inl (subst (λ (l : Six). weight l r.pose ≡ pos 0) h r.gone.2))) (inr (inr z)))
        | inr h2 ↦ elim h2 [
          | inl h ↦ edges (zeros_found t s d r.pose r.close r.nonneg (inr (inr (subst (λ (l : Six). weight l r.pose ≡ pos 0) h r.gone.2))) (inr (inr z)))
          | inr h3 ↦ elim h3 [
            | inl h ↦ turned_side t s d (corner_found t (turn s) d (turned r.pose) area (turned_close t s d r.pose r.close) (turned_nonneg r.pose r.nonneg) z (subst (λ (l : Six). weight l r.pose ≡ pos 0) h r.gone.2))
            | inr h4 ↦ elim h4 [
              | inl h ↦ corner_found t s d r.pose area r.close r.nonneg (subst (λ (l : Six). weight l r.pose ≡ pos 0) h r.gone.2) z
              | inr h5 ↦ absurd h5
            ]
          ]
        ]
      ]
    ]

less_none : (x y : ℤ) → pos 0 ≤ℤ (x -ℤ y -ℤ pos 0) → pos 0 ≤ℤ (x -ℤ y)
less_none x y h = omega (arith, ints)

pierced : (t s : Face) (d n x y v k : ℤ) → HasArea t → (k ≡ pos 1) ⊎ (k ≡ negsuc 0) → pos 0 <ℤ (k *ℤ slope s.a s.b t) → let w : Pose = record { n = n; a2 = x; a3 = y; b2 = v; b3 = pos 0 } in IsClose t s d w → NoNegative w → SideFound t s d
pierced t s d n x y v k area sign steep c nn =
    let w : Pose = record { n = n; a2 = x; a3 = y; b2 = v; b3 = pos 0 } in
    let f = pierce_pose k s.a s.b t in
    elim (towards_slide t s d w f (a1 ∷ a2 ∷ a3 ∷ b1 ∷ b2 ∷ []) c nn steep (pierce_aims k t s w)
    (λ i. elim i as (λ (i : Six). In i (a1 ∷ a2 ∷ a3 ∷ b1 ∷ b2 ∷ []) ⊎ (change i (aim w f) ≡ pos 0)) [
      | a1 ↦ inl (inl refl)
      | a2 ↦ inl (inr (inl refl))
      | a3 ↦ inl (inr (inr (inl refl)))
      | b1 ↦ inl (inr (inr (inr (inl refl))))
      | b2 ↦ inl (inr (inr (inr (inr (inl refl)))))
      | b3 ↦ inr (nothing n f.n)
    ])) [
      | inl r ↦ through k ca sign (record { steep = steep; in_a = r.0 a1; in_b = r.0 a2; in_c = r.0 a3; after_p = r.0 b2; before_q = less_none f.n f.b2 (r.0 b1) })
      | inr r ↦ edge_next t s d w (aim w f) area r (r.kept b3 refl (nothing n f.n))
    ]

zero_less : (v : ℤ) → pos 0 -ℤ pos 0 *ℤ v ≡ pos 0
zero_less v = omega (arith, ints)

flat_coordinate : (x y h n e k v u w : ℤ) → h ≡ pos 0 → x *ℤ e +ℤ y *ℤ k +ℤ h *ℤ v -ℤ n *ℤ u ≡ pos 0 → x *ℤ e +ℤ y *ℤ k -ℤ (n *ℤ u +ℤ pos 0 *ℤ w) ≡ pos 0
flat_coordinate x y h n e k v u w z f =
    ring (x ∷ y ∷ h ∷ n ∷ e ∷ k ∷ v ∷ u ∷ w ∷ []) (at 0 ⊗ at 4 ⊕ at 1 ⊗ at 5 ⊖ (at 3 ⊗ at 7 ⊕ lit (pos 0) ⊗ at 8)) ((at 0 ⊗ at 4 ⊕ at 1 ⊗ at 5 ⊕ at 2 ⊗ at 6 ⊖ at 3 ⊗ at 7) ⊖ at 2 ⊗ at 6) refl
    ∙ rw (f, z) (zero_less v)

once : (z : ℤ) → pos 0 <ℤ z → pos 0 <ℤ (pos 1 *ℤ z)
once z h = omega (arith, ints)

once_back : (z : ℤ) → z <ℤ pos 0 → pos 0 <ℤ (negsuc 0 *ℤ z)
once_back z h = omega (arith, ints)

-- an edge along the plane
along_plane : (t : Face) (u : Vector) (x y : Vector) → height_of (minus t.b t.a) (minus t.c t.a) u ≡ pos 0 →
    minus (plus (times (along_of (minus t.b t.a) (minus t.c t.a) u) (minus t.b t.a)) (times (across_of (minus t.b t.a) (minus t.c t.a) u) (minus t.c t.a))) (plus (times (square_of (minus t.b t.a) (minus t.c t.a)) u) (times (pos 0) x)) ≡ nowhere
along_plane t u x y h =
    let e = minus t.b t.a in let k = minus t.c t.a in
    same_vector _ nowhere
    (flat_coordinate (along_of e k u) (across_of e k u) (height_of e k u) (square_of e k) e.x k.x (cross_of e k).x u.x x.x h (split_x e k u))
    (flat_coordinate (along_of e k u) (across_of e k u) (height_of e k u) (square_of e k) e.y k.y (cross_of e k).y u.y x.y h (split_y e k u))
    (flat_coordinate (along_of e k u) (across_of e k u) (height_of e k u) (square_of e k) e.z k.z (cross_of e k).z u.z x.z h (split_z e k u))

level : (t s : Face) (d n x y v : ℤ) → HasArea t → slope s.a s.b t ≡ pos 0 → let w : Pose = record { n = n; a2 = x; a3 = y; b2 = v; b3 = pos 0 } in IsClose t s d w → NoNegative w → SideFound t s d
level t s d n x y v area flat c nn =
    let w : Pose = record { n = n; a2 = x; a3 = y; b2 = v; b3 = pos 0 } in
    let e = minus t.b t.a in let k = minus t.c t.a in let u = minus s.b s.a in
    let o : Shift = record { a2 = along_of e k u; a3 = across_of e k u; b2 = square_of e k; b3 = pos 0 } in
    let r = free_slide t s d w o (a1 ∷ a2 ∷ a3 ∷ b1 ∷ b2 ∷ []) c nn (along_plane t u (minus s.c s.a) u (sym (slope_is s.a s.b t) ∙ flat))
    (λ i. elim i as (λ (i : Six). In i (a1 ∷ a2 ∷ a3 ∷ b1 ∷ b2 ∷ []) ⊎ (change i o ≡ pos 0)) [
      | a1 ↦ inl (inl refl)
      | a2 ↦ inl (inr (inl refl))
      | a3 ↦ inl (inr (inr (inl refl)))
      | b1 ↦ inl (inr (inr (inr (inl refl))))
      | b2 ↦ inl (inr (inr (inr (inr (inl refl)))))
      | b3 ↦ inr refl
    ])
    (λ f. falling (square_of e k) area f.1.1.1.0) in
    edge_next t s d w o area r (r.kept b3 refl refl)

edge_plain : (t s : Face) (d n x y v : ℤ) → HasArea t → let w : Pose = record { n = n; a2 = x; a3 = y; b2 = v; b3 = pos 0 } in IsClose t s d w → NoNegative w → SideFound t s d
edge_plain t s d n x y v area c nn =
    let z = slope s.a s.b t in
    by_lt_z (pos 0) z
    (λ h. pierced t s d n x y v (pos 1) area (inl refl) (once z h) c nn)
    (λ h. by_lt_z z (pos 0)
    (λ g. pierced t s d n x y v (negsuc 0) area (inr refl) (once_back z g) c nn)
    (λ g. level t s d n x y v area (flat_zero z h g) c nn))

pub edge_found : (t s : Face) (d : ℤ) (w : Pose) → HasArea t → IsClose t s d w → NoNegative w → w.b3 ≡ pos 0 → SideFound t s d
edge_found t s d w area c nn f =
    let z = edge_pose w f in
    edge_plain t s d w.n w.a2 w.a3 w.b2 area (subst (λ (v : Pose). IsClose t s d v) z c) (subst (λ (v : Pose). NoNegative v) z nn)

pub side_found : (t s : Face) (d : ℤ) (w : Pose) → HasArea t → IsClose t s d w → NoNegative w → ZeroB w → SideFound t s d
side_found t s d w area c nn (inr (inr z)) = edge_found t s d w area c nn z
side_found t s d w area c nn (inl z) = turned_side t s d (edge_found t (turn s) d (turned w) area (turned_close t s d w c) (turned_nonneg w nn) z)
side_found t s d w area c nn (inr (inl z)) =
    let c' = turned_close t (turn s) d (turned w) (turned_close t s d w c) in
    let nn' = turned_nonneg (turned w) (turned_nonneg w nn) in
    turned_side t s d (turned_side t (turn s) d (edge_found t (turn (turn s)) d (turned (turned w)) area c' nn' (first_turned w.n w.b2 w.b3 ∙ z)))

-- ---- two faces with an area: a way along both planes
record BothPlanes (t s : Face) : Type 0 where
  way : Vector
  long : pos 0 <ℤ dot_of way way
  in_t : height_of (minus t.b t.a) (minus t.c t.a) way ≡ pos 0
  in_s : height_of (minus s.b s.a) (minus s.c s.a) way ≡ pos 0

upright_left : (v w : Vector) → dot_of (cross_of v w) v ≡ pos 0
upright_left v w = ring (v.x ∷ v.y ∷ v.z ∷ w.x ∷ w.y ∷ w.z ∷ []) (scalar (crossed (spot 0) (spot 3)) (spot 0)) (lit (pos 0)) refl

upright_right : (v w : Vector) → dot_of (cross_of v w) w ≡ pos 0
upright_right v w = ring (v.x ∷ v.y ∷ v.z ∷ w.x ∷ w.y ∷ w.z ∷ []) (scalar (crossed (spot 0) (spot 3)) (spot 3)) (lit (pos 0)) refl

-- from c * v = b * u as vectors, along e
share_of : (c b : ℤ) (v u e : Vector) → dot_of e (minus (times c v) (times b u)) ≡ c *ℤ dot_of e v -ℤ b *ℤ dot_of e u
share_of c b v u e =
    ring (c ∷ b ∷ v.x ∷ v.y ∷ v.z ∷ u.x ∷ u.y ∷ u.z ∷ e.x ∷ e.y ∷ e.z ∷ []) (scalar (spot 8) (at 0 ⊡ spot 2 ⊟ at 1 ⊡ spot 5)) (at 0 ⊗ scalar (spot 8) (spot 2) ⊖ at 1 ⊗ scalar (spot 8) (spot 5)) refl

pub dot_nowhere : (e : Vector) → dot_of e nowhere ≡ pos 0
dot_nowhere e = ring (e.x ∷ e.y ∷ e.z ∷ []) (at 0 ⊗ lit (pos 0) ⊕ at 1 ⊗ lit (pos 0) ⊕ at 2 ⊗ lit (pos 0)) (lit (pos 0)) refl

only_zero : (c x : ℤ) → pos 0 <ℤ c → c *ℤ x ≡ pos 0 → x ≡ pos 0
only_zero (pos (suc c)) (pos zero) h e = refl
only_zero (pos (suc c)) (pos (suc n)) h e = absurd (omega (arith, ints, e))
only_zero (pos (suc c)) (negsuc n) h e = absurd (omega (arith, ints, e))
only_zero (pos zero) x h e = absurd (omega (arith, ints, h))
only_zero (negsuc c) x h e = absurd (omega (arith, ints, h))

times_none : (b : ℤ) → pos 0 +ℤ b *ℤ pos 0 ≡ pos 0
times_none b = omega (arith, ints)

left_zero : (c x b y : ℤ) → c *ℤ x -ℤ b *ℤ y ≡ pos 0 → y ≡ pos 0 → c *ℤ x ≡ pos 0
left_zero c x b y e f =
    ring (c ∷ x ∷ b ∷ y ∷ []) (at 0 ⊗ at 1) ((at 0 ⊗ at 1 ⊖ at 2 ⊗ at 3) ⊕ at 2 ⊗ at 3) refl ∙ rw (e, f) (times_none b)

still_square : (u : Vector) → square_of nowhere u ≡ pos 0
still_square u =
    let o = lit (pos 0) in let z : Coords = record { x = o; y = o; z = o } in let v = crossed z (spot 0) in
    ring (u.x ∷ u.y ∷ u.z ∷ []) (scalar v v) o refl

flat_square : (e u : Vector) → e ≡ nowhere → square_of e u ≡ pos 0
flat_square e u z = ap (λ (v : Vector). square_of v u) z ∙ still_square u

positive_not : (x : ℤ) → pos 0 <ℤ x → x ≡ pos 0 → ⊥
positive_not x h e = omega (arith, ints)

square_turns : (v w : Vector) → square_of v w ≡ square_of w v
square_turns v w =
    let a = crossed (spot 0) (spot 3) in let b = crossed (spot 3) (spot 0) in
    ring (v.x ∷ v.y ∷ v.z ∷ w.x ∷ w.y ∷ w.z ∷ []) (scalar a a) (scalar b b) refl

both_planes : (t s : Face) → HasArea t → BothPlanes t s
both_planes t s area =
    let e = minus t.b t.a in let k = minus t.c t.a in
    let v = cross_of e k in
    let w = cross_of (minus s.b s.a) (minus s.c s.a) in
    by_lt_z (pos 0) (square_of v w)
    (λ h. record { way = cross_of v w; long = h; in_t = upright_left v w; in_s = upright_right v w })
    (λ h.
    let z = flat_zero (square_of w v) (subst (λ (x : ℤ). x ≤ℤ pos 0) (square_turns v w) h) (length_nonneg (cross_of w v)) in
    let p = ap (λ (x : Vector). dot_of e x) (parallel w v z) ∙ dot_nowhere e in
    record {
      way = e;
      long = by_lt_z (pos 0) (dot_of e e) (λ y. y) (λ y. absurd (positive_not (square_of e k) area (flat_square e k (no_length e (flat_zero (dot_of e e) y (length_nonneg e))))));
      in_t = upright_first e k;
      in_s = only_zero (dot_of v v) (dot_of e w) area (left_zero (dot_of v v) (dot_of e w) (dot_of w v) (dot_of e v) (sym (share_of (dot_of v v) (dot_of w v) w v e) ∙ p) (upright_first e k));
    })

level_part : (x y h n e k v u : ℤ) → h ≡ pos 0 → x *ℤ e +ℤ y *ℤ k +ℤ h *ℤ v -ℤ n *ℤ u ≡ pos 0 → x *ℤ e +ℤ y *ℤ k -ℤ n *ℤ u ≡ pos 0
level_part x y h n e k v u z f =
    ring (x ∷ y ∷ h ∷ n ∷ e ∷ k ∷ v ∷ u ∷ []) (at 0 ⊗ at 4 ⊕ at 1 ⊗ at 5 ⊖ at 3 ⊗ at 7) ((at 0 ⊗ at 4 ⊕ at 1 ⊗ at 5 ⊕ at 2 ⊗ at 6 ⊖ at 3 ⊗ at 7) ⊖ at 2 ⊗ at 6) refl
    ∙ rw (f, z) (zero_less v)

none_and_none : (a b : ℤ) → a *ℤ pos 0 -ℤ b *ℤ pos 0 ≡ pos 0
none_and_none a b = omega (arith, ints)

both_coordinate : (n m x y v w e k p q u : ℤ) → x *ℤ e +ℤ y *ℤ k -ℤ n *ℤ u ≡ pos 0 → v *ℤ p +ℤ w *ℤ q -ℤ m *ℤ u ≡ pos 0 → m *ℤ x *ℤ e +ℤ m *ℤ y *ℤ k -ℤ (n *ℤ v *ℤ p +ℤ n *ℤ w *ℤ q) ≡ pos 0
both_coordinate n m x y v w e k p q u f g =
    let tn = at 0 in let tm = at 1 in let tx = at 2 in let ty = at 3 in let tv = at 4 in let tw = at 5 in let te = at 6 in let tk = at 7 in let tp = at 8 in let tq = at 9 in let tu = at 10 in
    ring (n ∷ m ∷ x ∷ y ∷ v ∷ w ∷ e ∷ k ∷ p ∷ q ∷ u ∷ []) (tm ⊗ tx ⊗ te ⊕ tm ⊗ ty ⊗ tk ⊖ (tn ⊗ tv ⊗ tp ⊕ tn ⊗ tw ⊗ tq)) (tm ⊗ (tx ⊗ te ⊕ ty ⊗ tk ⊖ tn ⊗ tu) ⊖ tn ⊗ (tv ⊗ tp ⊕ tw ⊗ tq ⊖ tm ⊗ tu)) refl
    ∙ rw (f, g) (none_and_none m n)

zero_pair : (e k : ℤ) → pos 0 *ℤ e +ℤ pos 0 *ℤ k -ℤ pos 0 ≡ pos 0
zero_pair e k = omega (arith, ints)

way_zero : (n x y e k u : ℤ) → pos 0 <ℤ n → x ≡ pos 0 → y ≡ pos 0 → x *ℤ e +ℤ y *ℤ k -ℤ n *ℤ u ≡ pos 0 → u ≡ pos 0
way_zero n x y e k u hn f g z =
    only_zero n u hn (ring (n ∷ x ∷ y ∷ e ∷ k ∷ u ∷ []) (at 0 ⊗ at 5) ((at 1 ⊗ at 3 ⊕ at 2 ⊗ at 4) ⊖ (at 1 ⊗ at 3 ⊕ at 2 ⊗ at 4 ⊖ at 0 ⊗ at 5)) refl ∙ rw (z, f, g) (zero_pair e k))

zero_between : (x y : ℤ) → pos 0 ≤ℤ (pos 0 -ℤ x -ℤ y) → pos 0 ≤ℤ x → pos 0 ≤ℤ y → (x ≡ pos 0) × (y ≡ pos 0)
zero_between x y f g h = omega (arith, ints)

pub record Freed (t s : Face) (d : ℤ) (live : List Six) : Type 0 where
  pub pose : Pose
  pub close : IsClose t s d pose
  pub nonneg : NoNegative pose
  pub gone : (i : Six) × In i live × (weight i pose ≡ pos 0)

faces_slide : (t s : Face) (d : ℤ) (w : Pose) → HasArea t → HasArea s → (c : IsClose t s d w) → NoNegative w → Freed t s d (a1 ∷ a2 ∷ a3 ∷ b1 ∷ b2 ∷ b3 ∷ [])
faces_slide t s d w area area' c nn =
    let e = minus t.b t.a in let k = minus t.c t.a in let p = minus s.b s.a in let q = minus s.c s.a in
    let b = both_planes t s area in let u = b.way in
    let n = square_of e k in let m = square_of p q in
    let x = along_of e k u in let y = across_of e k u in let v = along_of p q u in let z = across_of p q u in
    let o : Shift = record { a2 = m *ℤ x; a3 = m *ℤ y; b2 = n *ℤ v; b3 = n *ℤ z } in
    let fx = level_part x y (height_of e k u) n e.x k.x (cross_of e k).x u.x b.in_t (split_x e k u) in
    let fy = level_part x y (height_of e k u) n e.y k.y (cross_of e k).y u.y b.in_t (split_y e k u) in
    let fz = level_part x y (height_of e k u) n e.z k.z (cross_of e k).z u.z b.in_t (split_z e k u) in
    let gx = level_part v z (height_of p q u) m p.x q.x (cross_of p q).x u.x b.in_s (split_x p q u) in
    let gy = level_part v z (height_of p q u) m p.y q.y (cross_of p q).y u.y b.in_s (split_y p q u) in
    let gz = level_part v z (height_of p q u) m p.z q.z (cross_of p q).z u.z b.in_s (split_z p q u) in
    let r = free_slide t s d w o (a1 ∷ a2 ∷ a3 ∷ b1 ∷ b2 ∷ b3 ∷ []) c nn
    (same_vector (drift t s o) nowhere (both_coordinate n m x y v z e.x k.x p.x q.x u.x fx gx) (both_coordinate n m x y v z e.y k.y p.y q.y u.y fy gy) (both_coordinate n m x y v z e.z k.z p.z q.z u.z fz gz))
    (λ i. elim i as (λ (i : Six). In i (a1 ∷ a2 ∷ a3 ∷ b1 ∷ b2 ∷ b3 ∷ []) ⊎ (change i o ≡ pos 0)) [
      | a1 ↦ inl (inl refl)
      | a2 ↦ inl (inr (inl refl))
      | a3 ↦ inl (inr (inr (inl refl)))
      | b1 ↦ inl (inr (inr (inr (inl refl))))
      | b2 ↦ inl (inr (inr (inr (inr (inl refl)))))
      | b3 ↦ inl (inr (inr (inr (inr (inr (inl refl))))))
    ])
    (λ f.
    let h = zero_between (m *ℤ x) (m *ℤ y) f.0 f.1.0 f.1.1.0 in
    let hx = only_zero m x area' h.0 in let hy = only_zero m y area' h.1 in
    let g = same_vector u nowhere (way_zero n x y e.x k.x u.x area hx hy fx) (way_zero n x y e.y k.y u.y area hx hy fy) (way_zero n x y e.z k.z u.z area hx hy fz) in
    positive_not (dot_of u u) b.long (ap (λ (l : Vector). dot_of u l) g ∙ dot_nowhere u)) in
    record { pose = r.pose; close = r.close; nonneg = r.nonneg; gone = r.gone }

zero_in_all : (w : Pose) (i : Six) → In i (a1 ∷ a2 ∷ a3 ∷ b1 ∷ b2 ∷ b3 ∷ []) → weight i w ≡ pos 0 → ZeroA w ⊎ ZeroB w
zero_in_all w a1 h z = inl (inl z)
zero_in_all w a2 h z = inl (inr (inl z))
zero_in_all w a3 h z = inl (inr (inr z))
zero_in_all w b1 h z = inr (inl z)
zero_in_all w b2 h z = inr (inr (inl z))
zero_in_all w b3 h z = inr (inr (inr z))

abbrev pub FacesFound : Face → Face → ℤ → Type 0
FacesFound t s d = SideFound t s d ⊎ SideFound s t d

-- ---- a face with no area: its points have other weights too
pub record Flat (t s : Face) (d : ℤ) (w : Pose) : Type 0 where
  pub pose : Pose
  pub close : IsClose t s d pose
  pub nonneg : NoNegative pose
  pub zero_a : ZeroA pose
  pub zero_b : ZeroB w → ZeroB pose

flat_part : (g h e k x y : ℤ) → g *ℤ e +ℤ (pos 0 -ℤ h) *ℤ k -ℤ (pos 0 *ℤ x +ℤ pos 0 *ℤ y) ≡ g *ℤ e -ℤ h *ℤ k
flat_part g h e k x y =
    ring (g ∷ h ∷ e ∷ k ∷ x ∷ y ∷ []) (at 0 ⊗ at 2 ⊕ (lit (pos 0) ⊖ at 1) ⊗ at 3 ⊖ (lit (pos 0) ⊗ at 4 ⊕ lit (pos 0) ⊗ at 5)) (at 0 ⊗ at 2 ⊖ at 1 ⊗ at 3) refl

still_part : (e x y : ℤ) → pos 0 *ℤ e +ℤ pos 1 *ℤ pos 0 -ℤ (pos 0 *ℤ x +ℤ pos 0 *ℤ y) ≡ pos 0
still_part e x y = omega (arith, ints)

some_falls : (g h : ℤ) → pos 0 <ℤ g → pos 0 ≤ℤ (pos 0 -ℤ g -ℤ (pos 0 -ℤ h)) → pos 0 ≤ℤ (pos 0 -ℤ h) → ⊥
some_falls g h a b c = omega (arith, ints)

one_falls : pos 0 ≤ℤ (pos 0 -ℤ pos 0 -ℤ pos 1) → ⊥
one_falls h = omega (arith, ints)

flat_drift : (e k x y : Vector) (g h : ℤ) → minus (times g e) (times h k) ≡ nowhere → minus (plus (times g e) (times (pos 0 -ℤ h) k)) (plus (times (pos 0) x) (times (pos 0) y)) ≡ nowhere
flat_drift e k x y g h z =
    same_vector (minus (plus (times g e) (times (pos 0 -ℤ h) k)) (plus (times (pos 0) x) (times (pos 0) y))) (minus (times g e) (times h k))
    (flat_part g h e.x k.x x.x y.x) (flat_part g h e.y k.y x.y y.y) (flat_part g h e.z k.z x.z y.z) ∙ z

still_drift : (e k x y : Vector) → k ≡ nowhere → minus (plus (times (pos 0) e) (times (pos 1) k)) (plus (times (pos 0) x) (times (pos 0) y)) ≡ nowhere
still_drift e k x y z =
    ap (λ (v : Vector). minus (plus (times (pos 0) e) (times (pos 1) v)) (plus (times (pos 0) x) (times (pos 0) y))) z
    ∙ same_vector (minus (plus (times (pos 0) e) (times (pos 1) nowhere)) (plus (times (pos 0) x) (times (pos 0) y))) nowhere (still_part e.x x.x y.x) (still_part e.y x.y y.y) (still_part e.z x.z y.z)

flat_next : (t s : Face) (d : ℤ) (w : Pose) (o : Shift) → change b1 o ≡ pos 0 → o.b2 ≡ pos 0 → o.b3 ≡ pos 0 → Next t s d w o (a1 ∷ a2 ∷ a3 ∷ []) → Flat t s d w
flat_next t s d w o e f g r =
    record {
      pose = r.pose;
      close = r.close;
      nonneg = r.nonneg;
      zero_a = zero_in_a r.pose r.gone.0 r.gone.1 r.gone.2;
      zero_b = λ z. elim z [ inl y ↦ inl (r.kept b1 y e) | inr z' ↦ elim z' [ inl y ↦ inr (inl (r.kept b2 y f)) | inr y ↦ inr (inr (r.kept b3 y g)) ] ];
    }

pub flattened : (t s : Face) (d : ℤ) (w : Pose) → square_of (minus t.b t.a) (minus t.c t.a) ≡ pos 0 → IsClose t s d w → NoNegative w → Flat t s d w
flattened t s d w flat c nn =
    let e = minus t.b t.a in let k = minus t.c t.a in let p = minus s.b s.a in let q = minus s.c s.a in
    by_lt_z (pos 0) (dot_of k k)
    (λ g.
    let o : Shift = record { a2 = dot_of k k; a3 = pos 0 -ℤ dot_of e k; b2 = pos 0; b3 = pos 0 } in
    flat_next t s d w o refl refl refl
    (free_slide t s d w o (a1 ∷ a2 ∷ a3 ∷ []) c nn (flat_drift e k p q (dot_of k k) (dot_of e k) (parallel e k flat))
    (λ i. elim i as (λ (i : Six). In i (a1 ∷ a2 ∷ a3 ∷ []) ⊎ (change i o ≡ pos 0)) [ a1 ↦ inl (inl refl) | a2 ↦ inl (inr (inl refl)) | a3 ↦ inl (inr (inr (inl refl))) | b1 ↦ inr refl | b2 ↦ inr refl | b3 ↦ inr refl ])
    (λ f. some_falls (dot_of k k) (dot_of e k) g f.0 f.1.1.0)))
    (λ g.
    let o : Shift = record { a2 = pos 0; a3 = pos 1; b2 = pos 0; b3 = pos 0 } in
    flat_next t s d w o refl refl refl
    (free_slide t s d w o (a1 ∷ a2 ∷ a3 ∷ []) c nn (still_drift e k p q (no_length k (flat_zero (dot_of k k) g (length_nonneg k))))
    (λ i. elim i as (λ (i : Six). In i (a1 ∷ a2 ∷ a3 ∷ []) ⊎ (change i o ≡ pos 0)) [ a1 ↦ inl (inl refl) | a2 ↦ inl (inr (inl refl)) | a3 ↦ inl (inr (inr (inl refl))) | b1 ↦ inr refl | b2 ↦ inr refl | b3 ↦ inr refl ])
    (λ f. one_falls f.0)))

swapped_side : (t s : Face) (d : ℤ) (w : Pose) → HasArea s → IsClose t s d w → NoNegative w → ZeroA w → SideFound s t d
swapped_side t s d w area c nn z = side_found s t d (swap w) area (swap_close t s d w c) (swap_nonneg w nn) z

-- Any two points that are close lead to two edges, a corner over a face, or an edge through a face
pub faces_found : (t s : Face) (d : ℤ) (w : Pose) → IsClose t s d w → NoNegative w → FacesFound t s d
faces_found t s d w c nn =
    let ft = square_of (minus t.b t.a) (minus t.c t.a) in let fs = square_of (minus s.b s.a) (minus s.c s.a) in
    by_lt_z (pos 0) ft
    (λ area. by_lt_z (pos 0) fs
    (λ area'.
    let r = faces_slide t s d w area area' c nn in
    elim (zero_in_all r.pose r.gone.0 r.gone.1 r.gone.2) [
      | inl z ↦ inr (swapped_side t s d r.pose area' r.close r.nonneg z)
      | inr z ↦ inl (side_found t s d r.pose area r.close r.nonneg z)
    ])
    (λ g.
    let r = flattened s t d (swap w) (flat_zero fs g (length_nonneg (cross_of (minus s.b s.a) (minus s.c s.a)))) (swap_close t s d w c) (swap_nonneg w nn) in
    inl (side_found t s d (swap r.pose) area (swap_close s t d r.pose r.close) (swap_nonneg r.pose r.nonneg) r.zero_a)))
    (λ g.
    let r = flattened t s d w (flat_zero ft g (length_nonneg (cross_of (minus t.b t.a) (minus t.c t.a)))) c nn in
    by_lt_z (pos 0) fs
    (λ area'. inr (swapped_side t s d r.pose area' r.close r.nonneg r.zero_a))
    (λ g'.
    let q = flattened s t d (swap r.pose) (flat_zero fs g' (length_nonneg (cross_of (minus s.b s.a) (minus s.c s.a)))) (swap_close t s d r.pose r.close) (swap_nonneg r.pose r.nonneg) in
    inr (edges (zeros_found s t d q.pose q.close q.nonneg q.zero_a (q.zero_b r.zero_a)))))
