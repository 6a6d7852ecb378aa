-- A segment and a face with a common point: exactly where one of the tests says so
use Rattle.std.proofs.Common.{ℕ, ◌+◌, ◌*◌, ◌≡◌, ◌⊎◌, inl, inr, arith, ℤ, pos, negsuc, ◌+ℤ◌, ◌-ℤ◌, ◌*ℤ◌, ◌≤ℤ◌, ◌<ℤ◌, refl, sym, ap, ◌∙◌, subst, [], ◌∷◌}
use Rattle.std.proofs.lemmas.Int.{ints}
use Rattle.exact_arith.specs.Space.{Vector, minus, times, dot_of, Face, nowhere}
use Rattle.tri_exact.specs.Within.{mix2, mix3, Meets, HasArea, FootWithin, EdgesWithin}
use Rattle.tri_exact.specs.Foot.{orient_of}
use Rattle.tri_exact.specs.Pierce.{weight_a, weight_b, weight_c, PiercesFace}
use Rattle.tri_exact.proofs.Pierce.{slope, depth, slope_is}
use Rattle.exact_arith.proofs.Ring.{ring, at, lit, ◌⊕◌, ◌⊖◌, ◌⊗◌}
use Rattle.exact_arith.proofs.Triples.{spot, ◌⊟◌, scalar, crossed}
use Rattle.exact_arith.proofs.Order.{mul_positive, nonneg_by}
use Rattle.tri_exact.proofs.Pose.{Pose, gap, same_vector, length_nonneg}
use Rattle.tri_exact.proofs.Weights.{Six, a1, a2, a3, b1, b2, b3, weight}
use Rattle.tri_exact.proofs.FootTest.{foot_yes, foot_no}
use Rattle.tri_exact.proofs.EdgesTest.{edges_yes, edges_no, pose_in}
use Rattle.tri_exact.proofs.TwoEdges.{edge_face, edges_pose, EdgesClose, no_length, flat_zero}
use Rattle.tri_exact.proofs.TwoFaces.{Corner, ca, cb, cc, corner, next, Pierces, SideFound, edges, foot, through, edge_found}
use Rattle.tri_exact.proofs.Posed.{Posed, foot_posed, pierce_posed, at_t, pierces_yes}

-- what `segment_crosses` tests
abbrev pub CrossTests : Vector → Vector → Face → Type 0
CrossTests p q t =
    PiercesFace p q t ⊎ ((FootWithin p t 0 ⊎ FootWithin q t 0)
    ⊎ (EdgesWithin t.a t.b p q 0 ⊎ (EdgesWithin t.b t.c p q 0 ⊎ EdgesWithin t.c t.a p q 0)))

-- ---- the other direction of the segment, and its ends
turn_coordinate : (n x y a b p q : ℤ) → (n -ℤ x -ℤ pos 0) *ℤ a +ℤ x *ℤ b +ℤ pos 0 *ℤ b -ℤ ((n -ℤ y -ℤ pos 0) *ℤ q +ℤ y *ℤ p +ℤ pos 0 *ℤ p) ≡ (n -ℤ x -ℤ pos 0) *ℤ a +ℤ x *ℤ b +ℤ pos 0 *ℤ b -ℤ ((n -ℤ (n -ℤ y) -ℤ pos 0) *ℤ p +ℤ (n -ℤ y) *ℤ q +ℤ pos 0 *ℤ q)
turn_coordinate n x y a b p q =
    let tn = at 0 in let tx = at 1 in let ty = at 2 in let ta = at 3 in let tb = at 4 in let tp = at 5 in let tq = at 6 in let o = lit (pos 0) in
    let f = (tn ⊖ tx ⊖ o) ⊗ ta ⊕ tx ⊗ tb ⊕ o ⊗ tb in
    ring (n ∷ x ∷ y ∷ a ∷ b ∷ p ∷ q ∷ []) (f ⊖ ((tn ⊖ ty ⊖ o) ⊗ tq ⊕ ty ⊗ tp ⊕ o ⊗ tp)) (f ⊖ ((tn ⊖ (tn ⊖ ty) ⊖ o) ⊗ tp ⊕ (tn ⊖ ty) ⊗ tq ⊕ o ⊗ tq)) refl

end_coordinate : (n x y a b p q : ℤ) → (n -ℤ x -ℤ pos 0) *ℤ a +ℤ x *ℤ b +ℤ pos 0 *ℤ b -ℤ ((n -ℤ y -ℤ pos 0) *ℤ q +ℤ y *ℤ q +ℤ pos 0 *ℤ q) ≡ (n -ℤ x -ℤ pos 0) *ℤ a +ℤ x *ℤ b +ℤ pos 0 *ℤ b -ℤ ((n -ℤ n -ℤ pos 0) *ℤ p +ℤ n *ℤ q +ℤ pos 0 *ℤ q)
end_coordinate n x y a b p q =
    let tn = at 0 in let tx = at 1 in let ty = at 2 in let ta = at 3 in let tb = at 4 in let tp = at 5 in let tq = at 6 in let o = lit (pos 0) in
    let f = (tn ⊖ tx ⊖ o) ⊗ ta ⊕ tx ⊗ tb ⊕ o ⊗ tb in
    ring (n ∷ x ∷ y ∷ a ∷ b ∷ p ∷ q ∷ []) (f ⊖ ((tn ⊖ ty ⊖ o) ⊗ tq ⊕ ty ⊗ tq ⊕ o ⊗ tq)) (f ⊖ ((tn ⊖ tn ⊖ o) ⊗ tp ⊕ tn ⊗ tq ⊕ o ⊗ tq)) refl

less_none : (x y : ℤ) → pos 0 ≤ℤ (x -ℤ y -ℤ pos 0) → pos 0 ≤ℤ (x -ℤ y)
less_none x y h = omega (arith, ints)

back_in : (n y : ℤ) → pos 0 ≤ℤ y → pos 0 ≤ℤ (n -ℤ (n -ℤ y))
back_in n y h = omega (arith, ints)

all_in : (n : ℤ) → pos 0 ≤ℤ (n -ℤ n)
all_in n = omega (arith, ints)

weak : (n : ℤ) → pos 0 <ℤ n → pos 0 ≤ℤ n
weak n h = omega (arith, ints)

turned_edges : (a b p q : Vector) (d : ℤ) → EdgesClose a b q p d → EdgesClose a b p q d
turned_edges a b p q d c =
    let n = c.n in let x = c.x in let y = c.y in
    let e : gap (edge_face a b) (edge_face q p) (edges_pose n x y) ≡ gap (edge_face a b) (edge_face p q) (edges_pose n x (n -ℤ y)) = same_vector (gap (edge_face a b) (edge_face q p) (edges_pose n x y)) (gap (edge_face a b) (edge_face p q) (edges_pose n x (n -ℤ y))) (turn_coordinate n x y a.x b.x p.x q.x) (turn_coordinate n x y a.y b.y p.y q.y) (turn_coordinate n x y a.z b.z p.z q.z) in
    record {
      n = n;
      x = x;
      y = n -ℤ y;
      nonneg = pose_in a b p q d n x (n -ℤ y) (c.nonneg a2) (less_none n x (c.nonneg a1)) (less_none n y (c.nonneg b1)) (back_in n y (c.nonneg b2));
      close = record { n_positive = c.close.n_positive; within = subst (λ (v : Vector). dot_of v v ≤ℤ (d *ℤ (n *ℤ n))) e c.close.within };
    }

end_edges : (a b p q : Vector) (d : ℤ) → EdgesClose a b q q d → EdgesClose a b p q d
end_edges a b p q d c =
    let n = c.n in let x = c.x in let y = c.y in
    let e : gap (edge_face a b) (edge_face q q) (edges_pose n x y) ≡ gap (edge_face a b) (edge_face p q) (edges_pose n x n) = same_vector (gap (edge_face a b) (edge_face q q) (edges_pose n x y)) (gap (edge_face a b) (edge_face p q) (edges_pose n x n)) (end_coordinate n x y a.x b.x p.x q.x) (end_coordinate n x y a.y b.y p.y q.y) (end_coordinate n x y a.z b.z p.z q.z) in
    record {
      n = n;
      x = x;
      y = n;
      nonneg = pose_in a b p q d n x n (c.nonneg a2) (less_none n x (c.nonneg a1)) (weak n c.close.n_positive) (all_in n);
      close = record { n_positive = c.close.n_positive; within = subst (λ (v : Vector). dot_of v v ≤ℤ (d *ℤ (n *ℤ n))) e c.close.within };
    }

edge_to : (a b p q : Vector) (d : ℤ) (j : Corner) → EdgesClose a b (corner j (edge_face p q)) (corner (next j) (edge_face p q)) d → EdgesClose a b p q d
edge_to a b p q d ca c = c
edge_to a b p q d cb c = end_edges a b p q d c
edge_to a b p q d cc c = turned_edges a b p q d c

-- ---- the other direction through the face
volume_turns : (p q b c : Vector) → orient_of q b c p ≡ pos 0 -ℤ orient_of p b c q
volume_turns p q b c =
    let tp = spot 0 in let tq = spot 3 in let tb = spot 6 in let tc = spot 9 in
    ring (p.x ∷ p.y ∷ p.z ∷ q.x ∷ q.y ∷ q.z ∷ b.x ∷ b.y ∷ b.z ∷ c.x ∷ c.y ∷ c.z ∷ []) (scalar (crossed (tb ⊟ tq) (tc ⊟ tq)) (tp ⊟ tq)) (lit (pos 0) ⊖ scalar (crossed (tb ⊟ tp) (tc ⊟ tp)) (tq ⊟ tp)) refl

depth_turns : (p q : Vector) (t : Face) → depth q t ≡ depth p t -ℤ slope p q t
depth_turns p q t =
    let tp = spot 0 in let tq = spot 3 in let ta = spot 6 in let tb = spot 9 in let tc = spot 12 in
    let a = ta ⊟ tp in let b = tb ⊟ tp in let c = tc ⊟ tp in let w = tq ⊟ tp in
    ring (p.x ∷ p.y ∷ p.z ∷ q.x ∷ q.y ∷ q.z ∷ t.a.x ∷ t.a.y ∷ t.a.z ∷ t.b.x ∷ t.b.y ∷ t.b.z ∷ t.c.x ∷ t.c.y ∷ t.c.z ∷ [])
    (scalar (crossed (ta ⊟ tq) (tb ⊟ tq)) (tc ⊟ tq)) (scalar (crossed a b) c ⊖ (scalar (crossed b c) w ⊕ scalar (crossed c a) w ⊕ scalar (crossed a b) w)) refl

back_times : (k x : ℤ) → k *ℤ (pos 0 -ℤ x) ≡ (pos 0 -ℤ k) *ℤ x
back_times k x = ring (k ∷ x ∷ []) (at 0 ⊗ (lit (pos 0) ⊖ at 1)) ((lit (pos 0) ⊖ at 0) ⊗ at 1) refl

back_sum : (k u v w : ℤ) → k *ℤ ((pos 0 -ℤ u) +ℤ (pos 0 -ℤ v) +ℤ (pos 0 -ℤ w)) ≡ (pos 0 -ℤ k) *ℤ (u +ℤ v +ℤ w)
back_sum k u v w = ring (k ∷ u ∷ v ∷ w ∷ []) (at 0 ⊗ ((lit (pos 0) ⊖ at 1) ⊕ (lit (pos 0) ⊖ at 2) ⊕ (lit (pos 0) ⊖ at 3))) ((lit (pos 0) ⊖ at 0) ⊗ (at 1 ⊕ at 2 ⊕ at 3)) refl

back_depth : (k x s : ℤ) → k *ℤ (x -ℤ s) ≡ (pos 0 -ℤ k) *ℤ s -ℤ (pos 0 -ℤ k) *ℤ x
back_depth k x s = ring (k ∷ x ∷ s ∷ []) (at 0 ⊗ (at 1 ⊖ at 2)) ((lit (pos 0) ⊖ at 0) ⊗ at 2 ⊖ (lit (pos 0) ⊖ at 0) ⊗ at 1) refl

back_rest : (s x : ℤ) → s -ℤ (s -ℤ x) ≡ x
back_rest s x = omega (arith, ints)

sum_same : (a b c d e f : ℤ) → a ≡ d → b ≡ e → c ≡ f → a +ℤ b +ℤ c ≡ d +ℤ e +ℤ f
sum_same a b c d e f x y z = ap (λ (t : ℤ). t +ℤ b +ℤ c) x ∙ (ap (λ (t : ℤ). d +ℤ t +ℤ c) y ∙ ap (λ (t : ℤ). d +ℤ e +ℤ t) z)

turned_pierce : (k : ℤ) (p q : Vector) (t : Face) → Pierces k q p t → Pierces (pos 0 -ℤ k) p q t
turned_pierce k p q t c =
    let l = pos 0 -ℤ k in
    let u = weight_a p q t in let v = weight_b p q t in let w = weight_c p q t in let x = depth p t in let s = slope p q t in
    let es : k *ℤ slope q p t ≡ l *ℤ s = ap (λ (z : ℤ). k *ℤ z) (sum_same (weight_a q p t) (weight_b q p t) (weight_c q p t) (pos 0 -ℤ u) (pos 0 -ℤ v) (pos 0 -ℤ w) (volume_turns p q t.b t.c) (volume_turns p q t.c t.a) (volume_turns p q t.a t.b)) ∙ back_sum k u v w in
    let ev : k *ℤ weight_b q p t ≡ l *ℤ v = ap (λ (z : ℤ). k *ℤ z) (volume_turns p q t.c t.a) ∙ back_times k v in
    let ew : k *ℤ weight_c q p t ≡ l *ℤ w = ap (λ (z : ℤ). k *ℤ z) (volume_turns p q t.a t.b) ∙ back_times k w in
    let ed : k *ℤ depth q t ≡ l *ℤ s -ℤ l *ℤ x = ap (λ (z : ℤ). k *ℤ z) (depth_turns p q t) ∙ back_depth k x s in
    record {
      steep = subst (λ (z : ℤ). pos 0 <ℤ z) es c.steep;
      in_a = subst (λ (z : ℤ). pos 0 ≤ℤ (l *ℤ s -ℤ l *ℤ v -ℤ z)) ew (subst (λ (z : ℤ). pos 0 ≤ℤ (l *ℤ s -ℤ z -ℤ k *ℤ weight_c q p t)) ev (subst (λ (z : ℤ). pos 0 ≤ℤ (z -ℤ k *ℤ weight_b q p t -ℤ k *ℤ weight_c q p t)) es c.in_a));
      in_b = subst (λ (z : ℤ). pos 0 ≤ℤ z) ev c.in_b;
      in_c = subst (λ (z : ℤ). pos 0 ≤ℤ z) ew c.in_c;
      after_p = subst (λ (z : ℤ). pos 0 ≤ℤ z) (back_rest (l *ℤ s) (l *ℤ x)) (subst (λ (z : ℤ). pos 0 ≤ℤ (l *ℤ s -ℤ z)) ed (subst (λ (z : ℤ). pos 0 ≤ℤ (z -ℤ k *ℤ depth q t)) es c.before_q));
      before_q = subst (λ (z : ℤ). pos 0 ≤ℤ z) ed c.after_p;
    }

other_sign : (k : ℤ) → (k ≡ pos 1) ⊎ (k ≡ negsuc 0) → (pos 0 -ℤ k ≡ pos 1) ⊎ (pos 0 -ℤ k ≡ negsuc 0)
other_sign k (inl e) = inr (ap (λ (z : ℤ). pos 0 -ℤ z) e)
other_sign k (inr e) = inl (ap (λ (z : ℤ). pos 0 -ℤ z) e)

nowhere_slope : (q : Vector) (t : Face) → slope q q t ≡ pos 0
nowhere_slope q t =
    slope_is q q t ∙ ring (q.x ∷ q.y ∷ q.z ∷ t.a.x ∷ t.a.y ∷ t.a.z ∷ t.b.x ∷ t.b.y ∷ t.b.z ∷ t.c.x ∷ t.c.y ∷ t.c.z ∷ []) (scalar (spot 0 ⊟ spot 0) (crossed (spot 6 ⊟ spot 3) (spot 9 ⊟ spot 3))) (lit (pos 0)) refl

steep_not : (k s : ℤ) → s ≡ pos 0 → pos 0 <ℤ (k *ℤ s) → ⊥
steep_not k s e h = omega (arith, ints, subst (λ (x : ℤ). pos 0 <ℤ (k *ℤ x)) e h)

-- ---- from a common point to the tests
joined : (i j k l m a b c p q : ℤ) → ((i +ℤ j +ℤ k) *ℤ (l +ℤ m) -ℤ (l +ℤ m) *ℤ j -ℤ (l +ℤ m) *ℤ k) *ℤ a +ℤ (l +ℤ m) *ℤ j *ℤ b +ℤ (l +ℤ m) *ℤ k *ℤ c -ℤ (((i +ℤ j +ℤ k) *ℤ (l +ℤ m) -ℤ (i +ℤ j +ℤ k) *ℤ m -ℤ pos 0) *ℤ p +ℤ (i +ℤ j +ℤ k) *ℤ m *ℤ q +ℤ pos 0 *ℤ q)
    ≡ (l +ℤ m) *ℤ (i *ℤ a +ℤ j *ℤ b +ℤ k *ℤ c) -ℤ (i +ℤ j +ℤ k) *ℤ (l *ℤ p +ℤ m *ℤ q)
joined i j k l m a b c p q =
    let ti = at 0 in let tj = at 1 in let tk = at 2 in let tl = at 3 in let tm = at 4 in let ta = at 5 in let tb = at 6 in let tc = at 7 in let tp = at 8 in let tq = at 9 in let o = lit (pos 0) in
    let x = ti ⊕ tj ⊕ tk in let y = tl ⊕ tm in
    ring (i ∷ j ∷ k ∷ l ∷ m ∷ a ∷ b ∷ c ∷ p ∷ q ∷ []) ((x ⊗ y ⊖ y ⊗ tj ⊖ y ⊗ tk) ⊗ ta ⊕ y ⊗ tj ⊗ tb ⊕ y ⊗ tk ⊗ tc ⊖ ((x ⊗ y ⊖ x ⊗ tm ⊖ o) ⊗ tp ⊕ x ⊗ tm ⊗ tq ⊕ o ⊗ tq))
    (y ⊗ (ti ⊗ ta ⊕ tj ⊗ tb ⊕ tk ⊗ tc) ⊖ x ⊗ (tl ⊗ tp ⊕ tm ⊗ tq)) refl

none : (x : ℤ) → x -ℤ x ≡ pos 0
none x = omega (arith, ints)

self_minus : (v : Vector) → minus v v ≡ nowhere
self_minus v = same_vector (minus v v) nowhere (none v.x) (none v.y) (none v.z)

natural : (n : ℕ) → pos 0 ≤ℤ pos n
natural n = omega (arith, ints)

rest_a : (i j k n : ℤ) → (i +ℤ j +ℤ k) *ℤ n -ℤ n *ℤ j -ℤ n *ℤ k ≡ n *ℤ i
rest_a i j k n = ring (i ∷ j ∷ k ∷ n ∷ []) ((at 0 ⊕ at 1 ⊕ at 2) ⊗ at 3 ⊖ at 3 ⊗ at 1 ⊖ at 3 ⊗ at 2) (at 3 ⊗ at 0) refl

rest_b : (x l m : ℤ) → x *ℤ (l +ℤ m) -ℤ x *ℤ m -ℤ pos 0 ≡ x *ℤ l
rest_b x l m = ring (x ∷ l ∷ m ∷ []) (at 0 ⊗ (at 1 ⊕ at 2) ⊖ at 0 ⊗ at 2 ⊖ lit (pos 0)) (at 0 ⊗ at 1) refl

no_gap : (n : ℤ) → dot_of nowhere nowhere ≤ℤ (pos 0 *ℤ (n *ℤ n))
no_gap n = omega (arith, ints)

pub meets_found : (p q : Vector) (t : Face) → HasArea t → Meets p q t → SideFound t (edge_face p q) (pos 0)
unfolding Meets
meets_found p q t area (i, j, k, l, m, hx, hy, e) =
    let x = pos i +ℤ pos j +ℤ pos k in let y = pos l +ℤ pos m in let s = edge_face p q in
    let w : Pose = record { n = x *ℤ y; a2 = y *ℤ pos j; a3 = y *ℤ pos k; b2 = x *ℤ pos m; b3 = pos 0 } in
    let f = times y (mix3 t (pos i) (pos j) (pos k)) in let h = times x (mix2 p q (pos l) (pos m)) in
    let g : gap t s w ≡ minus f h = same_vector (gap t s w) (minus f h) (joined (pos i) (pos j) (pos k) (pos l) (pos m) t.a.x t.b.x t.c.x p.x q.x) (joined (pos i) (pos j) (pos k) (pos l) (pos m) t.a.y t.b.y t.c.y p.y q.y) (joined (pos i) (pos j) (pos k) (pos l) (pos m) t.a.z t.b.z t.c.z p.z q.z) in
    let z = g ∙ (ap (λ (v : Vector). minus v h) e ∙ self_minus h) in
    edge_found t s (pos 0) w area (record { n_positive = mul_positive x y (omega (arith, ints, hx)) (omega (arith, ints, hy)); within = subst (λ (v : Vector). dot_of v v ≤ℤ (pos 0 *ℤ (x *ℤ y *ℤ (x *ℤ y)))) (sym z) (no_gap (x *ℤ y)) })
    (λ o. elim o as (λ (o : Six). pos 0 ≤ℤ weight o w) [
      | a1 ↦ nonneg_by _ _ (rest_a (pos i) (pos j) (pos k) y) (natural ((l + m) * i))
      | a2 ↦ natural ((l + m) * j)
      | a3 ↦ natural ((l + m) * k)
      | b1 ↦ nonneg_by _ _ (rest_b x (pos l) (pos m)) (natural ((i + j + k) * l))
      | b2 ↦ natural ((i + j + k) * m)
      | b3 ↦ natural 0
    ]) refl

edge_test : (p q : Vector) (t : Face) (i : Corner) → EdgesWithin (corner i t) (corner (next i) t) p q 0 → CrossTests p q t
edge_test p q t ca c = inr (inr (inl c))
edge_test p q t cb c = inr (inr (inr (inl c)))
edge_test p q t cc c = inr (inr (inr (inr c)))

found_test : (p q : Vector) (t : Face) → SideFound t (edge_face p q) (pos 0) → CrossTests p q t
found_test p q t (edges (i, j, c)) = edge_test p q t i (edges_yes (corner i t) (corner (next i) t) p q 0 (edge_to (corner i t) (corner (next i) t) p q (pos 0) j c))
found_test p q t (foot ca c) = inr (inl (inl (foot_yes p t 0 c)))
found_test p q t (foot cb c) = inr (inl (inr (foot_yes q t 0 c)))
found_test p q t (foot cc c) = inr (inl (inr (foot_yes q t 0 c)))
found_test p q t (through k ca y c) = inl (pierces_yes p q t k y c)
found_test p q t (through k cb y c) = absurd (steep_not k (slope q q t) (nowhere_slope q t) c.steep)
found_test p q t (through k cc y c) = inl (pierces_yes p q t (pos 0 -ℤ k) (other_sign k y) (turned_pierce k p q t c))

pub meets_tests : (p q : Vector) (t : Face) → HasArea t → Meets p q t → CrossTests p q t
meets_tests p q t area h = found_test p q t (meets_found p q t area h)

-- ---- from the tests to a common point
meets_weights : (p q : Vector) (t : Face) (x y z u v : ℤ) → pos 0 ≤ℤ x → pos 0 ≤ℤ y → pos 0 ≤ℤ z → pos 0 ≤ℤ u → pos 0 ≤ℤ v → pos 0 <ℤ (x +ℤ y +ℤ z) → pos 0 <ℤ (u +ℤ v) →
    times (u +ℤ v) (mix3 t x y z) ≡ times (x +ℤ y +ℤ z) (mix2 p q u v) → Meets p q t
unfolding Meets
meets_weights p q t (pos i) (pos j) (pos k) (pos l) (pos m) hx hy hz hu hv hs ht e = (i, j, k, l, m, omega (arith, ints, hs), omega (arith, ints, ht), e)
meets_weights p q t (negsuc i) y z u v hx hy hz hu hv hs ht e = absurd (omega (arith, ints, hx))
meets_weights p q t (pos i) (negsuc j) z u v hx hy hz hu hv hs ht e = absurd (omega (arith, ints, hy))
meets_weights p q t (pos i) (pos j) (negsuc k) u v hx hy hz hu hv hs ht e = absurd (omega (arith, ints, hz))
meets_weights p q t (pos i) (pos j) (pos k) (negsuc l) v hx hy hz hu hv hs ht e = absurd (omega (arith, ints, hu))
meets_weights p q t (pos i) (pos j) (pos k) (pos l) (negsuc m) hx hy hz hu hv hs ht e = absurd (omega (arith, ints, hv))

split : (n x y v w a b c p q : ℤ) → (n -ℤ v -ℤ w +ℤ (v +ℤ w)) *ℤ ((n -ℤ x -ℤ y) *ℤ a +ℤ x *ℤ b +ℤ y *ℤ c) ≡ (n -ℤ x -ℤ y +ℤ x +ℤ y) *ℤ ((n -ℤ v -ℤ w) *ℤ p +ℤ (v +ℤ w) *ℤ q) +ℤ n *ℤ ((n -ℤ x -ℤ y) *ℤ a +ℤ x *ℤ b +ℤ y *ℤ c -ℤ ((n -ℤ v -ℤ w) *ℤ p +ℤ v *ℤ q +ℤ w *ℤ q))
split n x y v w a b c p q =
    let tn = at 0 in let tx = at 1 in let ty = at 2 in let tv = at 3 in let tw = at 4 in let ta = at 5 in let tb = at 6 in let tc = at 7 in let tp = at 8 in let tq = at 9 in
    let m = (tn ⊖ tx ⊖ ty) ⊗ ta ⊕ tx ⊗ tb ⊕ ty ⊗ tc in
    ring (n ∷ x ∷ y ∷ v ∷ w ∷ a ∷ b ∷ c ∷ p ∷ q ∷ []) ((tn ⊖ tv ⊖ tw ⊕ (tv ⊕ tw)) ⊗ m) ((tn ⊖ tx ⊖ ty ⊕ tx ⊕ ty) ⊗ ((tn ⊖ tv ⊖ tw) ⊗ tp ⊕ (tv ⊕ tw) ⊗ tq) ⊕ tn ⊗ (m ⊖ ((tn ⊖ tv ⊖ tw) ⊗ tp ⊕ tv ⊗ tq ⊕ tw ⊗ tq))) refl

and_none : (x n g : ℤ) → g ≡ pos 0 → x +ℤ n *ℤ g ≡ x
and_none x n g e = rw e (omega (arith, ints))

closed : (x n : ℤ) → x ≤ℤ (pos 0 *ℤ (n *ℤ n)) → x ≤ℤ pos 0
closed x n h = omega (arith, ints)

sum_back : (n x y : ℤ) → n -ℤ x -ℤ y +ℤ x +ℤ y ≡ n
sum_back n x y = omega (arith, ints)

pair_back : (n x y : ℤ) → n -ℤ x -ℤ y +ℤ (x +ℤ y) ≡ n
pair_back n x y = omega (arith, ints)

pair_in : (x y : ℤ) → pos 0 ≤ℤ x → pos 0 ≤ℤ y → pos 0 ≤ℤ (x +ℤ y)
pair_in x y h k = omega (arith, ints)

posed_meets : (p q : Vector) (t : Face) → Posed t (edge_face p q) (pos 0) → Meets p q t
posed_meets p q t c =
    let s = edge_face p q in let w = c.pose in let n = w.n in let g = gap t s w in
    let z = no_length g (flat_zero (dot_of g g) (closed (dot_of g g) n c.close.within) (length_nonneg g)) in
    let x = n -ℤ w.a2 -ℤ w.a3 in let u = n -ℤ w.b2 -ℤ w.b3 in let v = w.b2 +ℤ w.b3 in
    meets_weights p q t x w.a2 w.a3 u v (c.nonneg a1) (c.nonneg a2) (c.nonneg a3) (c.nonneg b1) (pair_in w.b2 w.b3 (c.nonneg b2) (c.nonneg b3))
    (subst (λ (k : ℤ). pos 0 <ℤ k) (sym (sum_back n w.a2 w.a3)) c.close.n_positive) (subst (λ (k : ℤ). pos 0 <ℤ k) (sym (pair_back n w.b2 w.b3)) c.close.n_positive)
    (same_vector (times (u +ℤ v) (mix3 t x w.a2 w.a3)) (times (x +ℤ w.a2 +ℤ w.a3) (mix2 p q u v))
    (split n w.a2 w.a3 w.b2 w.b3 t.a.x t.b.x t.c.x p.x q.x ∙ and_none _ n g.x (ap (λ (k : Vector). k.x) z))
    (split n w.a2 w.a3 w.b2 w.b3 t.a.y t.b.y t.c.y p.y q.y ∙ and_none _ n g.y (ap (λ (k : Vector). k.y) z))
    (split n w.a2 w.a3 w.b2 w.b3 t.a.z t.b.z t.c.z p.z q.z ∙ and_none _ n g.z (ap (λ (k : Vector). k.z) z)))

pub tests_meet : (p q : Vector) (t : Face) → HasArea t → CrossTests p q t → Meets p q t
tests_meet p q t area (inl c) = posed_meets p q t (pierce_posed t (edge_face p q) 0 ca c)
tests_meet p q t area (inr (inl (inl c))) = posed_meets p q t (foot_posed t (edge_face p q) (pos 0) ca (foot_no p t 0 area c))
tests_meet p q t area (inr (inl (inr c))) = posed_meets p q t (foot_posed t (edge_face p q) (pos 0) cb (foot_no q t 0 area c))
tests_meet p q t area (inr (inr (inl c))) = posed_meets p q t (at_t t (edge_face p q) (pos 0) ca ca (edges_no t.a t.b p q 0 c))
tests_meet p q t area (inr (inr (inr (inl c)))) = posed_meets p q t (at_t t (edge_face p q) (pos 0) cb ca (edges_no t.b t.c p q 0 c))
tests_meet p q t area (inr (inr (inr (inr c)))) = posed_meets p q t (at_t t (edge_face p q) (pos 0) cc ca (edges_no t.c t.a p q 0 c))
