-- Two edges: their numbers say exactly what their weights say
use Rattle.std.proofs.Common.{ℕ, ◌+◌, ◌*◌, ◌≡◌, arith, ℤ, pos, negsuc, ◌+ℤ◌, ◌-ℤ◌, ◌*ℤ◌, ◌≤ℤ◌, ◌<ℤ◌, refl, sym, subst, [], ◌∷◌}
use Rattle.std.proofs.lemmas.Int.{ints}
use Rattle.exact_arith.specs.Space.{Vector, minus, times, dot_of, cross_of}
use Rattle.tri_exact.specs.Within.{mix2, PointEdgeWithin, EdgesWithin}
use Rattle.tri_exact.specs.Foot.{square_of, along_of, across_of, height_of}
use Rattle.tri_exact.specs.Edges.{LinesClose}
use Rattle.exact_arith.proofs.Ring.{ring, at, lit, ◌⊕◌, ◌⊖◌, ◌⊗◌}
use Rattle.exact_arith.proofs.Triples.{spot, ◌⊡◌, scalar}
use Rattle.exact_arith.proofs.Order.{mul_nonneg, mul_positive, square_nonneg, nonneg_by, certify, rest}
use Rattle.tri_exact.proofs.Pose.{gap, same_vector}
use Rattle.tri_exact.proofs.Weights.{a1, a2, a3, b1, b2, b3, NoNegative}
use Rattle.tri_exact.proofs.Reach.{lines_pose, lines_gap}
use Rattle.tri_exact.proofs.PointEdge.{point_weights}
use Rattle.tri_exact.proofs.FootTest.{low_square}
use Rattle.tri_exact.proofs.TwoEdges.{edge_face, edges_pose, EdgesClose, PointClose, EdgesFound, lines, end_a, end_b, end_p, end_q, near_a, near_b, near_p, near_q, opposite, opposite_square, square_along}

-- ---- a point and an edge
sum_back : (n j : ℤ) → n -ℤ j +ℤ j ≡ n
sum_back n j = omega (arith, ints)

pub point_yes : (p a b : Vector) (d : ℕ) → PointClose p a b (pos d *ℤ pos d) → PointEdgeWithin p a b d
point_yes p a b d c =
    let x = c.n -ℤ c.j in
    point_weights p a b d x c.j c.rest_in c.j_in (subst (λ (k : ℤ). pos 0 <ℤ k) (sym (sum_back c.n c.j)) c.n_positive)
    (subst (λ (k : ℤ). dot_of (minus (times k p) (mix2 a b x c.j)) (minus (times k p) (mix2 a b x c.j)) ≤ℤ (pos d *ℤ pos d *ℤ (k *ℤ k))) (sym (sum_back c.n c.j)) c.within)

first_back : (i j : ℕ) → pos i ≡ pos (i + j) -ℤ pos j
first_back i j = omega (arith, ints)

natural : (n : ℕ) → pos 0 ≤ℤ pos n
natural n = omega (arith, ints)

pub point_no : (p a b : Vector) (d : ℕ) → PointEdgeWithin p a b d → PointClose p a b (pos d *ℤ pos d)
unfolding PointEdgeWithin
point_no p a b d (i, j, hn, h) =
    let n = pos (i + j) in
    record {
      n = n;
      j = pos j;
      n_positive = omega (arith, ints, hn);
      j_in = natural j;
      rest_in = subst (λ (k : ℤ). pos 0 ≤ℤ k) (first_back i j) (natural i);
      within = subst (λ (k : ℤ). dot_of (minus (times n p) (mix2 a b k (pos j))) (minus (times n p) (mix2 a b k (pos j))) ≤ℤ (pos d *ℤ pos d *ℤ (n *ℤ n))) (first_back i j) h;
    }

-- ---- from each of the five to a close pose of the edges
module _ (a b p q : Vector) (d : ℤ) where
  pub pose_in : (n x y : ℤ) → pos 0 ≤ℤ x → pos 0 ≤ℤ (n -ℤ x) → pos 0 ≤ℤ y → pos 0 ≤ℤ (n -ℤ y) → NoNegative (edges_pose n x y)
  pose_in n x y hx hn hy hm a1 = omega (arith, ints, hn)
  pose_in n x y hx hn hy hm a2 = hx
  pose_in n x y hx hn hy hm a3 = omega (arith, ints)
  pose_in n x y hx hn hy hm b1 = omega (arith, ints, hm)
  pose_in n x y hx hn hy hm b2 = hy
  pose_in n x y hx hn hy hm b3 = omega (arith, ints)

  none_in : pos 0 ≤ℤ pos 0
  none_in = omega (arith, ints)

  all_in : (n : ℤ) → pos 0 ≤ℤ (n -ℤ n)
  all_in n = omega (arith, ints)

  full_in : (n : ℤ) → pos 0 <ℤ n → pos 0 ≤ℤ (n -ℤ pos 0)
  full_in n h = omega (arith, ints)

  weak_in : (n : ℤ) → pos 0 <ℤ n → pos 0 ≤ℤ n
  weak_in n h = omega (arith, ints)

  from_a : PointClose a p q d → EdgesClose a b p q d
  from_a c =
      let n = c.n in let y = c.j in let w = edges_pose n (pos 0) y in
      record {
        n = n;
        x = pos 0;
        y = y;
        nonneg = pose_in n (pos 0) y none_in (full_in n c.n_positive) c.j_in c.rest_in;
        close = record {
          n_positive = c.n_positive;
          within = square_along (minus (times n a) (mix2 p q (n -ℤ y) y)) (gap (edge_face a b) (edge_face p q) w) (d *ℤ (n *ℤ n))
              (sym (same_vector (gap (edge_face a b) (edge_face p q) w) (minus (times n a) (mix2 p q (n -ℤ y) y)) (near_a n y a.x b.x p.x q.x) (near_a n y a.y b.y p.y q.y) (near_a n y a.z b.z p.z q.z))) c.within;
        };
      }

  from_b : PointClose b p q d → EdgesClose a b p q d
  from_b c =
      let n = c.n in let y = c.j in let w = edges_pose n n y in
      record {
        n = n;
        x = n;
        y = y;
        nonneg = pose_in n n y (weak_in n c.n_positive) (all_in n) c.j_in c.rest_in;
        close = record {
          n_positive = c.n_positive;
          within = square_along (minus (times n b) (mix2 p q (n -ℤ y) y)) (gap (edge_face a b) (edge_face p q) w) (d *ℤ (n *ℤ n))
              (sym (same_vector (gap (edge_face a b) (edge_face p q) w) (minus (times n b) (mix2 p q (n -ℤ y) y)) (near_b n y a.x b.x p.x q.x) (near_b n y a.y b.y p.y q.y) (near_b n y a.z b.z p.z q.z))) c.within;
        };
      }

  square_back : (v w : Vector) (x : ℤ) → v ≡ opposite w → dot_of w w ≤ℤ x → dot_of v v ≤ℤ x
  square_back v w x e h = square_along (opposite w) v x (sym e) (subst (λ (k : ℤ). k ≤ℤ x) (sym (opposite_square w)) h)

  from_p : PointClose p a b d → EdgesClose a b p q d
  from_p c =
      let n = c.n in let x = c.j in let w = edges_pose n x (pos 0) in
      record {
        n = n;
        x = x;
        y = pos 0;
        nonneg = pose_in n x (pos 0) c.j_in c.rest_in none_in (full_in n c.n_positive);
        close = record {
          n_positive = c.n_positive;
          within = square_back (gap (edge_face a b) (edge_face p q) w) (minus (times n p) (mix2 a b (n -ℤ x) x)) (d *ℤ (n *ℤ n))
              (same_vector (gap (edge_face a b) (edge_face p q) w) (opposite (minus (times n p) (mix2 a b (n -ℤ x) x))) (near_p n x a.x b.x p.x q.x) (near_p n x a.y b.y p.y q.y) (near_p n x a.z b.z p.z q.z)) c.within;
        };
      }

  from_q : PointClose q a b d → EdgesClose a b p q d
  from_q c =
      let n = c.n in let x = c.j in let w = edges_pose n x n in
      record {
        n = n;
        x = x;
        y = n;
        nonneg = pose_in n x n c.j_in c.rest_in (weak_in n c.n_positive) (all_in n);
        close = record {
          n_positive = c.n_positive;
          within = square_back (gap (edge_face a b) (edge_face p q) w) (minus (times n q) (mix2 a b (n -ℤ x) x)) (d *ℤ (n *ℤ n))
              (same_vector (gap (edge_face a b) (edge_face p q) w) (opposite (minus (times n q) (mix2 a b (n -ℤ x) x))) (near_q n x a.x b.x p.x q.x) (near_q n x a.y b.y p.y q.y) (near_q n x a.z b.z p.z q.z)) c.within;
        };
      }

  minus_square : (h : ℤ) → (pos 0 -ℤ h) *ℤ (pos 0 -ℤ h) ≡ h *ℤ h
  minus_square h = ring (h ∷ []) ((lit (pos 0) ⊖ at 0) ⊗ (lit (pos 0) ⊖ at 0)) (at 0 ⊗ at 0) refl

  from_lines : LinesClose a b p q d → EdgesClose a b p q d
  from_lines c =
      let e = minus b a in let u = minus q p in let r = minus p a in
      let n = square_of e u in let x = along_of e u r in let y = pos 0 -ℤ across_of e u r in let h = height_of e u r in
      let w = lines_pose a b p q in
      record {
        n = n;
        x = x;
        y = y;
        nonneg = pose_in n x y c.along_in (rest x n c.along_end) (rest (across_of e u r) (pos 0) c.across_in) (omega (arith, ints, c.across_end));
        close = record {
          n_positive = c.slanted;
          within = square_along (times (pos 0 -ℤ h) (cross_of e u)) (gap (edge_face a b) (edge_face p q) w) (d *ℤ (n *ℤ n)) (sym (lines_gap (edge_face a b) (edge_face p q)))
              (low_square (pos 0 -ℤ h) d (cross_of e u) (subst (λ (k : ℤ). k ≤ℤ (d *ℤ n)) (sym (minus_square h)) c.low));
        };
      }

  pub found_edges : EdgesFound a b p q d → EdgesClose a b p q d
  found_edges (lines c) = from_lines c
  found_edges (end_a c) = from_a c
  found_edges (end_b c) = from_b c
  found_edges (end_p c) = from_p c
  found_edges (end_q c) = from_q c

-- ---- natural weights with sums of their own
edges_weights : (a b p q : Vector) (d : ℕ) (x y v w : ℤ) → pos 0 ≤ℤ x → pos 0 ≤ℤ y → pos 0 ≤ℤ v → pos 0 ≤ℤ w → pos 0 <ℤ (x +ℤ y) → pos 0 <ℤ (v +ℤ w) →
    let g = minus (times (v +ℤ w) (mix2 a b x y)) (times (x +ℤ y) (mix2 p q v w)) in dot_of g g ≤ℤ (pos d *ℤ pos d *ℤ ((x +ℤ y) *ℤ (v +ℤ w) *ℤ ((x +ℤ y) *ℤ (v +ℤ w)))) → EdgesWithin a b p q d
unfolding EdgesWithin
edges_weights a b p q d (pos i) (pos j) (pos k) (pos l) hx hy hv hw hs ht h = (i, j, k, l, omega (arith, ints, hs), omega (arith, ints, ht), h)
edges_weights a b p q d (negsuc i) y v w hx hy hv hw hs ht h = absurd (omega (arith, ints, hx))
edges_weights a b p q d (pos i) (negsuc j) v w hx hy hv hw hs ht h = absurd (omega (arith, ints, hy))
edges_weights a b p q d (pos i) (pos j) (negsuc k) w hx hy hv hw hs ht h = absurd (omega (arith, ints, hv))
edges_weights a b p q d (pos i) (pos j) (pos k) (negsuc l) hx hy hv hw hs ht h = absurd (omega (arith, ints, hw))

-- one sum for both, or one for each: k is the factor between them
pub widen : (m n d : ℤ) (g h : Vector) → h ≡ times m g → dot_of g g ≤ℤ (d *ℤ (n *ℤ n)) → dot_of h h ≤ℤ (d *ℤ (m *ℤ n *ℤ (m *ℤ n)))
widen m n d g h e b =
    subst (λ (v : Vector). dot_of v v ≤ℤ (d *ℤ (m *ℤ n *ℤ (m *ℤ n)))) (sym e)
    (certify (m ∷ n ∷ d ∷ g.x ∷ g.y ∷ g.z ∷ []) (lit (pos 1)) (scalar (at 0 ⊡ spot 3) (at 0 ⊡ spot 3)) (at 2 ⊗ (at 0 ⊗ at 1 ⊗ (at 0 ⊗ at 1))) (at 0 ⊗ at 0 ⊗ (at 2 ⊗ (at 1 ⊗ at 1) ⊖ scalar (spot 3) (spot 3)))
    (omega (arith, ints)) refl (mul_nonneg _ _ (square_nonneg m) (rest _ _ b)))

split_coordinate : (n x y a b p q : ℤ) → (n -ℤ y +ℤ y) *ℤ ((n -ℤ x) *ℤ a +ℤ x *ℤ b) -ℤ (n -ℤ x +ℤ x) *ℤ ((n -ℤ y) *ℤ p +ℤ y *ℤ q) ≡ n *ℤ ((n -ℤ x -ℤ pos 0) *ℤ a +ℤ x *ℤ b +ℤ pos 0 *ℤ b -ℤ ((n -ℤ y -ℤ pos 0) *ℤ p +ℤ y *ℤ q +ℤ pos 0 *ℤ q))
split_coordinate n x y a b p q =
    let tn = at 0 in let tx = at 1 in let ty = at 2 in let ta = at 3 in let tb = at 4 in let tp = at 5 in let tq = at 6 in let o = lit (pos 0) in
    ring (n ∷ x ∷ y ∷ a ∷ b ∷ p ∷ q ∷ []) ((tn ⊖ ty ⊕ ty) ⊗ ((tn ⊖ tx) ⊗ ta ⊕ tx ⊗ tb) ⊖ (tn ⊖ tx ⊕ tx) ⊗ ((tn ⊖ ty) ⊗ tp ⊕ ty ⊗ tq))
    (tn ⊗ ((tn ⊖ tx ⊖ o) ⊗ ta ⊕ tx ⊗ tb ⊕ o ⊗ tb ⊖ ((tn ⊖ ty ⊖ o) ⊗ tp ⊕ ty ⊗ tq ⊕ o ⊗ tq))) refl

first_in : (n x : ℤ) → pos 0 ≤ℤ (n -ℤ x -ℤ pos 0) → pos 0 ≤ℤ (n -ℤ x)
first_in n x h = omega (arith, ints)

rest_a : (i j n : ℤ) → (i +ℤ j) *ℤ n -ℤ n *ℤ j ≡ n *ℤ i
rest_a i j n = ring (i ∷ j ∷ n ∷ []) ((at 0 ⊕ at 1) ⊗ at 2 ⊖ at 2 ⊗ at 1) (at 2 ⊗ at 0) refl

rest_b : (m k l : ℤ) → m *ℤ (k +ℤ l) -ℤ m *ℤ l ≡ m *ℤ k
rest_b m k l = ring (m ∷ k ∷ l ∷ []) (at 0 ⊗ (at 1 ⊕ at 2) ⊖ at 0 ⊗ at 2) (at 0 ⊗ at 1) refl

pub edges_yes : (a b p q : Vector) (d : ℕ) → EdgesClose a b p q (pos d *ℤ pos d) → EdgesWithin a b p q d
edges_yes a b p q d c =
    let n = c.n in let x = c.x in let y = c.y in
    let g = gap (edge_face a b) (edge_face p q) (edges_pose n x y) in
    let h = minus (times (n -ℤ y +ℤ y) (mix2 a b (n -ℤ x) x)) (times (n -ℤ x +ℤ x) (mix2 p q (n -ℤ y) y)) in
    let e : h ≡ times n g = same_vector h (times n g) (split_coordinate n x y a.x b.x p.x q.x) (split_coordinate n x y a.y b.y p.y q.y) (split_coordinate n x y a.z b.z p.z q.z) in
    let w = widen n n (pos d *ℤ pos d) g h e c.close.within in
    let w1 = subst (λ (k : ℤ). dot_of h h ≤ℤ (pos d *ℤ pos d *ℤ (k *ℤ n *ℤ (k *ℤ n)))) (sym (sum_back n x)) w in
    let w2 = subst (λ (k : ℤ). dot_of h h ≤ℤ (pos d *ℤ pos d *ℤ ((n -ℤ x +ℤ x) *ℤ k *ℤ ((n -ℤ x +ℤ x) *ℤ k)))) (sym (sum_back n y)) w1 in
    let hn = c.close.n_positive in
    edges_weights a b p q d (n -ℤ x) x (n -ℤ y) y (first_in n x (c.nonneg a1)) (c.nonneg a2) (first_in n y (c.nonneg b1)) (c.nonneg b2)
    (subst (λ (k : ℤ). pos 0 <ℤ k) (sym (sum_back n x)) hn) (subst (λ (k : ℤ). pos 0 <ℤ k) (sym (sum_back n y)) hn) w2

joined_coordinate : (i j k l a b p q : ℤ) → (k +ℤ l) *ℤ (i *ℤ a +ℤ j *ℤ b) -ℤ (i +ℤ j) *ℤ (k *ℤ p +ℤ l *ℤ q) ≡ ((i +ℤ j) *ℤ (k +ℤ l) -ℤ (k +ℤ l) *ℤ j -ℤ pos 0) *ℤ a +ℤ (k +ℤ l) *ℤ j *ℤ b +ℤ pos 0 *ℤ b -ℤ (((i +ℤ j) *ℤ (k +ℤ l) -ℤ (i +ℤ j) *ℤ l -ℤ pos 0) *ℤ p +ℤ (i +ℤ j) *ℤ l *ℤ q +ℤ pos 0 *ℤ q)
joined_coordinate i j k l a b p q =
    let ti = at 0 in let tj = at 1 in let tk = at 2 in let tl = at 3 in let ta = at 4 in let tb = at 5 in let tp = at 6 in let tq = at 7 in let o = lit (pos 0) in
    let m = ti ⊕ tj in let n = tk ⊕ tl in
    ring (i ∷ j ∷ k ∷ l ∷ a ∷ b ∷ p ∷ q ∷ []) (n ⊗ (ti ⊗ ta ⊕ tj ⊗ tb) ⊖ m ⊗ (tk ⊗ tp ⊕ tl ⊗ tq)) ((m ⊗ n ⊖ n ⊗ tj ⊖ o) ⊗ ta ⊕ n ⊗ tj ⊗ tb ⊕ o ⊗ tb ⊖ ((m ⊗ n ⊖ m ⊗ tl ⊖ o) ⊗ tp ⊕ m ⊗ tl ⊗ tq ⊕ o ⊗ tq)) refl

pub edges_no : (a b p q : Vector) (d : ℕ) → EdgesWithin a b p q d → EdgesClose a b p q (pos d *ℤ pos d)
unfolding EdgesWithin
edges_no a b p q d (i, j, k, l, hm, hn, h) =
    let m = pos i +ℤ pos j in let n = pos k +ℤ pos l in
    let x = n *ℤ pos j in let y = m *ℤ pos l in
    let g = gap (edge_face a b) (edge_face p q) (edges_pose (m *ℤ n) x y) in
    let f = minus (times n (mix2 a b (pos i) (pos j))) (times m (mix2 p q (pos k) (pos l))) in
    let e : f ≡ g = same_vector f g (joined_coordinate (pos i) (pos j) (pos k) (pos l) a.x b.x p.x q.x) (joined_coordinate (pos i) (pos j) (pos k) (pos l) a.y b.y p.y q.y) (joined_coordinate (pos i) (pos j) (pos k) (pos l) a.z b.z p.z q.z) in
    record {
      n = m *ℤ n;
      x = x;
      y = y;
      close = record { n_positive = mul_positive m n (omega (arith, ints, hm)) (omega (arith, ints, hn)); within = square_along f g (pos d *ℤ pos d *ℤ (m *ℤ n *ℤ (m *ℤ n))) e h };
      nonneg = pose_in a b p q (pos d) (m *ℤ n) x y (natural ((k + l) * j)) (nonneg_by _ _ (rest_a (pos i) (pos j) n) (natural ((k + l) * i))) (natural ((i + j) * l)) (nonneg_by _ _ (rest_b m (pos k) (pos l)) (natural ((i + j) * k)));
    }
