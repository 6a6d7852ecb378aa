-- Two faces: near exactly where one of the tests says so
use Rattle.std.proofs.Common.{ℕ, ◌+◌, ◌*◌, ◌≡◌, ◌⊎◌, inl, inr, arith, ℤ, pos, negsuc, ◌+ℤ◌, ◌-ℤ◌, ◌*ℤ◌, ◌≤ℤ◌, ◌<ℤ◌, refl, sym, ap, ◌∙◌, subst, [], ◌∷◌}
use Rattle.std.proofs.lemmas.Int.{ints, by_lt_z}
use Rattle.exact_arith.specs.Space.{Vector, minus, times, dot_of, cross_of, Face}
use Rattle.tri_exact.specs.Within.{mix3, HasArea, FootWithin, EdgesWithin}
use Rattle.clearance.specs.Near.{FacesNear}
use Rattle.tri_exact.specs.Pierce.{PiercesFace}
use Rattle.tri_exact.proofs.Pierce.{slope, slope_is}
use Rattle.clearance.specs.inner.Planes.{SideNear}
use Rattle.clearance.specs.inner.EdgePairs.{EdgeNear, EdgesNear}
use Rattle.exact_arith.proofs.Ring.{ring, at, ◌⊕◌, ◌⊖◌, ◌⊗◌}
use Rattle.exact_arith.proofs.Order.{mul_positive, nonneg_by}
use Rattle.tri_exact.proofs.Pose.{Pose, gap, same_vector, length_nonneg}
use Rattle.tri_exact.proofs.Weights.{Six, a1, a2, a3, b1, b2, b3, weight}
use Rattle.tri_exact.proofs.Posed.{Posed, at_t, swapped, foot_posed, pierce_posed, pierces_yes}
use Rattle.tri_exact.proofs.FootTest.{foot_yes, foot_no}
use Rattle.tri_exact.proofs.EdgesTest.{widen, edges_yes, edges_no}
use Rattle.tri_exact.proofs.TwoEdges.{no_length, flat_zero}
use Rattle.tri_exact.proofs.TwoFaces.{Corner, ca, cb, cc, corner, next, Pierces, SideFound, edges, foot, through, SomeEdges, FacesFound, faces_found, swap_edges, dot_nowhere}

-- ---- natural weights with sums of their own
near_weights : (t s : Face) (d : ℕ) (x y z u v w : ℤ) → pos 0 ≤ℤ x → pos 0 ≤ℤ y → pos 0 ≤ℤ z → pos 0 ≤ℤ u → pos 0 ≤ℤ v → pos 0 ≤ℤ w → pos 0 <ℤ (x +ℤ y +ℤ z) → pos 0 <ℤ (u +ℤ v +ℤ w) →
    let g = minus (times (u +ℤ v +ℤ w) (mix3 t x y z)) (times (x +ℤ y +ℤ z) (mix3 s u v w)) in dot_of g g ≤ℤ (pos d *ℤ pos d *ℤ ((x +ℤ y +ℤ z) *ℤ (u +ℤ v +ℤ w) *ℤ ((x +ℤ y +ℤ z) *ℤ (u +ℤ v +ℤ w)))) → FacesNear t s d
unfolding FacesNear
near_weights t s d (pos i) (pos j) (pos k) (pos l) (pos m) (pos n) hx hy hz hu hv hw hs ht h = (i, j, k, l, m, n, omega (arith, ints, hs), omega (arith, ints, ht), h)
near_weights t s d (negsuc i) y z u v w hx hy hz hu hv hw hs ht h = absurd (omega (arith, ints, hx))
near_weights t s d (pos i) (negsuc j) z u v w hx hy hz hu hv hw hs ht h = absurd (omega (arith, ints, hy))
near_weights t s d (pos i) (pos j) (negsuc k) u v w hx hy hz hu hv hw hs ht h = absurd (omega (arith, ints, hz))
near_weights t s d (pos i) (pos j) (pos k) (negsuc l) v w hx hy hz hu hv hw hs ht h = absurd (omega (arith, ints, hu))
near_weights t s d (pos i) (pos j) (pos k) (pos l) (negsuc m) w hx hy hz hu hv hw hs ht h = absurd (omega (arith, ints, hv))
near_weights t s d (pos i) (pos j) (pos k) (pos l) (pos m) (negsuc n) hx hy hz hu hv hw hs ht h = absurd (omega (arith, ints, hw))

sum_back : (n x y : ℤ) → n -ℤ x -ℤ y +ℤ x +ℤ y ≡ n
sum_back n x y = omega (arith, ints)

split_coordinate : (n x y v w a b c p q r : ℤ) → (n -ℤ v -ℤ w +ℤ v +ℤ w) *ℤ ((n -ℤ x -ℤ y) *ℤ a +ℤ x *ℤ b +ℤ y *ℤ c) -ℤ (n -ℤ x -ℤ y +ℤ x +ℤ y) *ℤ ((n -ℤ v -ℤ w) *ℤ p +ℤ v *ℤ q +ℤ w *ℤ r) ≡ n *ℤ ((n -ℤ x -ℤ y) *ℤ a +ℤ x *ℤ b +ℤ y *ℤ c -ℤ ((n -ℤ v -ℤ w) *ℤ p +ℤ v *ℤ q +ℤ w *ℤ r))
split_coordinate n x y v w a b c p q r =
    let tn = at 0 in let tx = at 1 in let ty = at 2 in let tv = at 3 in let tw = at 4 in let ta = at 5 in let tb = at 6 in let tc = at 7 in let tp = at 8 in let tq = at 9 in let tr = at 10 in
    let m = (tn ⊖ tx ⊖ ty) ⊗ ta ⊕ tx ⊗ tb ⊕ ty ⊗ tc in let k = (tn ⊖ tv ⊖ tw) ⊗ tp ⊕ tv ⊗ tq ⊕ tw ⊗ tr in
    ring (n ∷ x ∷ y ∷ v ∷ w ∷ a ∷ b ∷ c ∷ p ∷ q ∷ r ∷ []) ((tn ⊖ tv ⊖ tw ⊕ tv ⊕ tw) ⊗ m ⊖ (tn ⊖ tx ⊖ ty ⊕ tx ⊕ ty) ⊗ k) (tn ⊗ (m ⊖ k)) refl

pub near_yes : (t s : Face) (d : ℕ) → Posed t s (pos d *ℤ pos d) → FacesNear t s d
near_yes t s d c =
    let w = c.pose in let n = w.n in
    let x = n -ℤ w.a2 -ℤ w.a3 in let u = n -ℤ w.b2 -ℤ w.b3 in
    let h = minus (times (u +ℤ w.b2 +ℤ w.b3) (mix3 t x w.a2 w.a3)) (times (x +ℤ w.a2 +ℤ w.a3) (mix3 s u w.b2 w.b3)) in
    let e : h ≡ times n (gap t s w) = same_vector h (times n (gap t s w))
    (split_coordinate n w.a2 w.a3 w.b2 w.b3 t.a.x t.b.x t.c.x s.a.x s.b.x s.c.x) (split_coordinate n w.a2 w.a3 w.b2 w.b3 t.a.y t.b.y t.c.y s.a.y s.b.y s.c.y) (split_coordinate n w.a2 w.a3 w.b2 w.b3 t.a.z t.b.z t.c.z s.a.z s.b.z s.c.z) in
    let f = widen n n (pos d *ℤ pos d) (gap t s w) h e c.close.within in
    let f1 = subst (λ (k : ℤ). dot_of h h ≤ℤ (pos d *ℤ pos d *ℤ (k *ℤ n *ℤ (k *ℤ n)))) (sym (sum_back n w.a2 w.a3)) f in
    let f2 = subst (λ (k : ℤ). dot_of h h ≤ℤ (pos d *ℤ pos d *ℤ ((x +ℤ w.a2 +ℤ w.a3) *ℤ k *ℤ ((x +ℤ w.a2 +ℤ w.a3) *ℤ k)))) (sym (sum_back n w.b2 w.b3)) f1 in
    near_weights t s d x w.a2 w.a3 u w.b2 w.b3 (c.nonneg a1) (c.nonneg a2) (c.nonneg a3) (c.nonneg b1) (c.nonneg b2) (c.nonneg b3)
    (subst (λ (k : ℤ). pos 0 <ℤ k) (sym (sum_back n w.a2 w.a3)) c.close.n_positive) (subst (λ (k : ℤ). pos 0 <ℤ k) (sym (sum_back n w.b2 w.b3)) c.close.n_positive) f2

joined_coordinate : (i j k l m n a b c p q r : ℤ) → (l +ℤ m +ℤ n) *ℤ (i *ℤ a +ℤ j *ℤ b +ℤ k *ℤ c) -ℤ (i +ℤ j +ℤ k) *ℤ (l *ℤ p +ℤ m *ℤ q +ℤ n *ℤ r)
    ≡ ((i +ℤ j +ℤ k) *ℤ (l +ℤ m +ℤ n) -ℤ (l +ℤ m +ℤ n) *ℤ j -ℤ (l +ℤ m +ℤ n) *ℤ k) *ℤ a +ℤ (l +ℤ m +ℤ n) *ℤ j *ℤ b +ℤ (l +ℤ m +ℤ n) *ℤ k *ℤ c -ℤ (((i +ℤ j +ℤ k) *ℤ (l +ℤ m +ℤ n) -ℤ (i +ℤ j +ℤ k) *ℤ m -ℤ (i +ℤ j +ℤ k) *ℤ n) *ℤ p +ℤ (i +ℤ j +ℤ k) *ℤ m *ℤ q +ℤ (i +ℤ j +ℤ k) *ℤ n *ℤ r)
joined_coordinate i j k l m n a b c p q r =
    let ti = at 0 in let tj = at 1 in let tk = at 2 in let tl = at 3 in let tm = at 4 in let tn = at 5 in let ta = at 6 in let tb = at 7 in let tc = at 8 in let tp = at 9 in let tq = at 10 in let tr = at 11 in
    let x = ti ⊕ tj ⊕ tk in let y = tl ⊕ tm ⊕ tn in
    ring (i ∷ j ∷ k ∷ l ∷ m ∷ n ∷ a ∷ b ∷ c ∷ p ∷ q ∷ r ∷ []) (y ⊗ (ti ⊗ ta ⊕ tj ⊗ tb ⊕ tk ⊗ tc) ⊖ x ⊗ (tl ⊗ tp ⊕ tm ⊗ tq ⊕ tn ⊗ tr))
    ((x ⊗ y ⊖ y ⊗ tj ⊖ y ⊗ tk) ⊗ ta ⊕ y ⊗ tj ⊗ tb ⊕ y ⊗ tk ⊗ tc ⊖ ((x ⊗ y ⊖ x ⊗ tm ⊖ x ⊗ tn) ⊗ tp ⊕ x ⊗ tm ⊗ tq ⊕ x ⊗ tn ⊗ tr)) refl

rest_a : (i j k n : ℤ) → (i +ℤ j +ℤ k) *ℤ n -ℤ n *ℤ j -ℤ n *ℤ k ≡ n *ℤ i
rest_a i j k n = ring (i ∷ j ∷ k ∷ n ∷ []) ((at 0 ⊕ at 1 ⊕ at 2) ⊗ at 3 ⊖ at 3 ⊗ at 1 ⊖ at 3 ⊗ at 2) (at 3 ⊗ at 0) refl

rest_b : (m j k l : ℤ) → m *ℤ (j +ℤ k +ℤ l) -ℤ m *ℤ k -ℤ m *ℤ l ≡ m *ℤ j
rest_b m j k l = ring (m ∷ j ∷ k ∷ l ∷ []) (at 0 ⊗ (at 1 ⊕ at 2 ⊕ at 3) ⊖ at 0 ⊗ at 2 ⊖ at 0 ⊗ at 3) (at 0 ⊗ at 1) refl

natural : (n : ℕ) → pos 0 ≤ℤ pos n
natural n = omega (arith, ints)

pub near_no : (t s : Face) (d : ℕ) → FacesNear t s d → Posed t s (pos d *ℤ pos d)
unfolding FacesNear
near_no t s d (i, j, k, l, m, n, hx, hy, h) =
    let x = pos i +ℤ pos j +ℤ pos k in let y = pos l +ℤ pos m +ℤ pos n in
    let w : Pose = record { n = x *ℤ y; a2 = y *ℤ pos j; a3 = y *ℤ pos k; b2 = x *ℤ pos m; b3 = x *ℤ pos n } in
    let f = minus (times y (mix3 t (pos i) (pos j) (pos k))) (times x (mix3 s (pos l) (pos m) (pos n))) in
    let e : f ≡ gap t s w = same_vector f (gap t s w)
    (joined_coordinate (pos i) (pos j) (pos k) (pos l) (pos m) (pos n) t.a.x t.b.x t.c.x s.a.x s.b.x s.c.x)
    (joined_coordinate (pos i) (pos j) (pos k) (pos l) (pos m) (pos n) t.a.y t.b.y t.c.y s.a.y s.b.y s.c.y)
    (joined_coordinate (pos i) (pos j) (pos k) (pos l) (pos m) (pos n) t.a.z t.b.z t.c.z s.a.z s.b.z s.c.z) in
    record {
      pose = w;
      close = record { n_positive = mul_positive x y (omega (arith, ints, hx)) (omega (arith, ints, hy)); within = subst (λ (v : Vector). dot_of v v ≤ℤ (pos d *ℤ pos d *ℤ (x *ℤ y *ℤ (x *ℤ y)))) e h };
      nonneg = λ o. elim o as (λ (o : Six). pos 0 ≤ℤ weight o w) [
        | a1 ↦ nonneg_by _ _ (rest_a (pos i) (pos j) (pos k) y) (natural ((l + m + n) * i))
        | a2 ↦ natural ((l + m + n) * j)
        | a3 ↦ natural ((l + m + n) * k)
        | b1 ↦ nonneg_by _ _ (rest_b x (pos l) (pos m) (pos n)) (natural ((i + j + k) * l))
        | b2 ↦ natural ((i + j + k) * m)
        | b3 ↦ natural ((i + j + k) * n)
      ];
    }

pub near_found : (t s : Face) (d : ℕ) → FacesNear t s d → FacesFound t s (pos d *ℤ pos d)
near_found t s d h = let c = near_no t s d h in faces_found t s (pos d *ℤ pos d) c.pose c.close c.nonneg

-- where one face has an area
pub side_yes : (t s : Face) (d : ℕ) → HasArea t → SideNear t s d → Posed t s (pos d *ℤ pos d)
side_yes t s d area (inl (inl c)) = foot_posed t s (pos d *ℤ pos d) ca (foot_no s.a t d area c)
side_yes t s d area (inl (inr (inl c))) = foot_posed t s (pos d *ℤ pos d) cb (foot_no s.b t d area c)
side_yes t s d area (inl (inr (inr c))) = foot_posed t s (pos d *ℤ pos d) cc (foot_no s.c t d area c)
side_yes t s d area (inr (inl c)) = pierce_posed t s d ca c
side_yes t s d area (inr (inr (inl c))) = pierce_posed t s d cb c
side_yes t s d area (inr (inr (inr c))) = pierce_posed t s d cc c

foot_side : (t s : Face) (d : ℕ) (j : Corner) → FootWithin (corner j s) t d → SideNear t s d
foot_side t s d ca c = inl (inl c)
foot_side t s d cb c = inl (inr (inl c))
foot_side t s d cc c = inl (inr (inr c))

pierce_side : (t s : Face) (d : ℕ) (j : Corner) → PiercesFace (corner j s) (corner (next j) s) t → SideNear t s d
pierce_side t s d ca c = inr (inl c)
pierce_side t s d cb c = inr (inr (inl c))
pierce_side t s d cc c = inr (inr (inr c))

edge_near : (a b : Vector) (s : Face) (d : ℕ) (j : Corner) → EdgesWithin a b (corner j s) (corner (next j) s) d → EdgeNear a b s d
edge_near a b s d ca c = inl c
edge_near a b s d cb c = inr (inl c)
edge_near a b s d cc c = inr (inr c)

pub edges_near : (t s : Face) (d : ℕ) → SomeEdges t s (pos d *ℤ pos d) → EdgesNear t s d
edges_near t s d (ca, j, c) = inl (edge_near t.a t.b s d j (edges_yes t.a t.b (corner j s) (corner (next j) s) d c))
edges_near t s d (cb, j, c) = inr (inl (edge_near t.b t.c s d j (edges_yes t.b t.c (corner j s) (corner (next j) s) d c)))
edges_near t s d (cc, j, c) = inr (inr (edge_near t.c t.a s d j (edges_yes t.c t.a (corner j s) (corner (next j) s) d c)))

edge_back : (t s : Face) (d : ℕ) (i : Corner) → EdgeNear (corner i t) (corner (next i) t) s d → Posed t s (pos d *ℤ pos d)
edge_back t s d i (inl c) = at_t t s (pos d *ℤ pos d) i ca (edges_no (corner i t) (corner (next i) t) s.a s.b d c)
edge_back t s d i (inr (inl c)) = at_t t s (pos d *ℤ pos d) i cb (edges_no (corner i t) (corner (next i) t) s.b s.c d c)
edge_back t s d i (inr (inr c)) = at_t t s (pos d *ℤ pos d) i cc (edges_no (corner i t) (corner (next i) t) s.c s.a d c)

pub edges_back : (t s : Face) (d : ℕ) → EdgesNear t s d → Posed t s (pos d *ℤ pos d)
edges_back t s d (inl c) = edge_back t s d ca c
edges_back t s d (inr (inl c)) = edge_back t s d cb c
edges_back t s d (inr (inr c)) = edge_back t s d cc c

pub swap_near : (t s : Face) (d : ℕ) → SomeEdges s t (pos d *ℤ pos d) → SomeEdges t s (pos d *ℤ pos d)
swap_near t s d (i, j, c) = (j, i, swap_edges (corner i s) (corner (next i) s) (corner j t) (corner (next j) t) (pos d *ℤ pos d) c)

steep_not : (k s : ℤ) → s ≡ pos 0 → pos 0 <ℤ (k *ℤ s) → ⊥
steep_not k s e h = omega (arith, ints, subst (λ (x : ℤ). pos 0 <ℤ (k *ℤ x)) e h)

-- a segment goes through a face only where this has an area
pub through_area : (p q : Vector) (t : Face) (k : ℤ) → Pierces k p q t → HasArea t
through_area p q t k c =
    let v = cross_of (minus t.b t.a) (minus t.c t.a) in
    by_lt_z (pos 0) (dot_of v v) (λ h. h)
    (λ h. absurd (steep_not k (slope p q t) (slope_is p q t ∙ (ap (λ (x : Vector). dot_of (minus q p) x) (no_length v (flat_zero (dot_of v v) h (length_nonneg v))) ∙ dot_nowhere (minus q p))) c.steep))

side_words : (t s : Face) (d : ℕ) → SideFound t s (pos d *ℤ pos d) → SomeEdges t s (pos d *ℤ pos d) ⊎ (HasArea t × SideNear t s d)
side_words t s d (edges c) = inl c
side_words t s d (foot j c) = inr (c.area, foot_side t s d j (foot_yes (corner j s) t d c))
side_words t s d (through k j y c) = inr (through_area (corner j s) (corner (next j) s) t k c, pierce_side t s d j (pierces_yes (corner j s) (corner (next j) s) t k y c))

-- what `near` tests
pub near_tests : (t s : Face) (d : ℕ) → FacesNear t s d → EdgesNear t s d ⊎ ((HasArea t × SideNear t s d) ⊎ (HasArea s × SideNear s t d))
near_tests t s d h =
    elim (near_found t s d h) [
      | inl f ↦ elim (side_words t s d f) [ inl c ↦ inl (edges_near t s d c) | inr c ↦ inr (inl c) ]
      | inr f ↦ elim (side_words s t d f) [ inl c ↦ inl (edges_near t s d (swap_near t s d c)) | inr c ↦ inr (inr c) ]
    ]

pub tests_near : (t s : Face) (d : ℕ) → EdgesNear t s d ⊎ ((HasArea t × SideNear t s d) ⊎ (HasArea s × SideNear s t d)) → FacesNear t s d
tests_near t s d (inl c) = near_yes t s d (edges_back t s d c)
tests_near t s d (inr (inl c)) = near_yes t s d (side_yes t s d c.0 c.1)
tests_near t s d (inr (inr c)) = near_yes t s d (swapped t s (pos d *ℤ pos d) (side_yes s t d c.0 c.1))
