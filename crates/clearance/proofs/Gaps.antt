-- Two faces whose boxes are more than d apart on an axis are not near
use Rattle.std.proofs.Common.{ℕ, ◌≡◌, arith, ℤ, pos, ◌+ℤ◌, ◌-ℤ◌, ◌*ℤ◌, ◌≤ℤ◌, ◌<ℤ◌, refl, subst, [], ◌∷◌}
use Rattle.std.proofs.lemmas.Int.{ints}
use Rattle.exact_arith.specs.Space.{Vector, dot_of, Face}
use Rattle.clearance.specs.Near.{FacesNear}
use Rattle.exact_arith.proofs.Ring.{ring, at, lit, ◌⊕◌, ◌⊖◌, ◌⊗◌}
use Rattle.exact_arith.proofs.Triples.{spot, scalar}
use Rattle.exact_arith.proofs.Order.{add_nonneg, mul_nonneg, mul_positive, certify, rest, nonneg}
use Rattle.tri_exact.proofs.Pose.{Pose, gap}
use Rattle.tri_exact.proofs.Weights.{a1, a2, a3, b1, b2, b3, NoNegative}
use Rattle.tri_exact.proofs.Posed.{swapped}
use Rattle.clearance.proofs.NearTest.{near_no, near_yes}

-- one coordinate of the gap, from its bounds
pub reach : (w : Pose) (a b c p q r hi lo : ℤ) → NoNegative w → a ≤ℤ hi → b ≤ℤ hi → c ≤ℤ hi → lo ≤ℤ p → lo ≤ℤ q → lo ≤ℤ r →
    (w.n *ℤ (lo -ℤ hi)) ≤ℤ (pos 0 -ℤ ((w.n -ℤ w.a2 -ℤ w.a3) *ℤ a +ℤ w.a2 *ℤ b +ℤ w.a3 *ℤ c -ℤ ((w.n -ℤ w.b2 -ℤ w.b3) *ℤ p +ℤ w.b2 *ℤ q +ℤ w.b3 *ℤ r)))
reach w a b c p q r hi lo nn ha hb hc hp hq hr =
    let n = at 0 in let x = at 1 in let y = at 2 in let u = at 3 in let v = at 4 in
    let ta = at 5 in let tb = at 6 in let tc = at 7 in let tp = at 8 in let tq = at 9 in let tr = at 10 in let h = at 11 in let l = at 12 in
    certify (w.n ∷ w.a2 ∷ w.a3 ∷ w.b2 ∷ w.b3 ∷ a ∷ b ∷ c ∷ p ∷ q ∷ r ∷ hi ∷ lo ∷ []) (lit (pos 1)) (n ⊗ (l ⊖ h))
    (lit (pos 0) ⊖ ((n ⊖ x ⊖ y) ⊗ ta ⊕ x ⊗ tb ⊕ y ⊗ tc ⊖ ((n ⊖ u ⊖ v) ⊗ tp ⊕ u ⊗ tq ⊕ v ⊗ tr)))
    ((n ⊖ x ⊖ y) ⊗ (h ⊖ ta) ⊕ (x ⊗ (h ⊖ tb) ⊕ (y ⊗ (h ⊖ tc) ⊕ ((n ⊖ u ⊖ v) ⊗ (tp ⊖ l) ⊕ (u ⊗ (tq ⊖ l) ⊕ v ⊗ (tr ⊖ l))))))
    (omega (arith, ints)) refl
    (add_nonneg _ _ (mul_nonneg _ _ (nn a1) (rest _ _ ha)) (add_nonneg _ _ (mul_nonneg _ _ (nn a2) (rest _ _ hb)) (add_nonneg _ _ (mul_nonneg _ _ (nn a3) (rest _ _ hc))
    (add_nonneg _ _ (mul_nonneg _ _ (nn b1) (rest _ _ hp)) (add_nonneg _ _ (mul_nonneg _ _ (nn b2) (rest _ _ hq)) (mul_nonneg _ _ (nn b3) (rest _ _ hr)))))))

two : pos 0 ≤ℤ pos 2
two = omega (arith, ints)

natural : (n : ℕ) → pos 0 ≤ℤ pos n
natural n = omega (arith, ints)

parts : (m d : ℤ) → (m -ℤ d) *ℤ (m +ℤ d) ≡ m *ℤ m -ℤ d *ℤ d
parts m d = ring (m ∷ d ∷ []) ((at 0 ⊖ at 1) ⊗ (at 0 ⊕ at 1)) (at 0 ⊗ at 0 ⊖ at 1 ⊗ at 1) refl

apart : (x y : ℤ) → x ≤ℤ y → pos 0 <ℤ (x -ℤ y) → ⊥
apart x y h k = omega (arith, ints)

-- a coordinate that is more than n * d in size is too far
too_far : (n m d g k : ℤ) → pos 0 <ℤ n → pos 0 ≤ℤ d → d <ℤ m → (n *ℤ m) ≤ℤ (pos 0 -ℤ g) → (g *ℤ g) ≤ℤ k → k ≤ℤ (d *ℤ d *ℤ (n *ℤ n)) → ⊥
too_far n m d g k hn hd hm h a b =
    let q : pos 0 ≤ℤ n = omega (arith, ints) in
    let hm' : pos 0 ≤ℤ m = omega (arith, ints) in
    let f = rest (n *ℤ m) (pos 0 -ℤ g) h in
    let z : (m *ℤ m) ≤ℤ (d *ℤ d) =
    certify (n ∷ m ∷ d ∷ g ∷ k ∷ []) (at 0 ⊗ at 0) (at 1 ⊗ at 1) (at 2 ⊗ at 2)
    ((at 2 ⊗ at 2 ⊗ (at 0 ⊗ at 0) ⊖ at 4) ⊕ ((at 4 ⊖ at 3 ⊗ at 3) ⊕ ((lit (pos 0) ⊖ at 3) ⊖ at 0 ⊗ at 1) ⊗ (((lit (pos 0) ⊖ at 3) ⊖ at 0 ⊗ at 1) ⊕ lit (pos 2) ⊗ (at 0 ⊗ at 1))))
    (mul_positive n n hn hn) refl
    (add_nonneg _ _ (rest _ _ b) (add_nonneg _ _ (rest _ _ a) (mul_nonneg _ _ f (add_nonneg _ _ f (mul_nonneg _ _ two (mul_nonneg _ _ q hm')))))) in
    let y : pos 0 <ℤ ((m -ℤ d) *ℤ (m +ℤ d)) = mul_positive (m -ℤ d) (m +ℤ d) (omega (arith, ints)) (omega (arith, ints)) in
    apart (m *ℤ m) (d *ℤ d) z (subst (λ (x : ℤ). pos 0 <ℤ x) (parts m d) y)

side_x : (g : Vector) → (g.x *ℤ g.x) ≤ℤ dot_of g g
side_x g = certify (g.x ∷ g.y ∷ g.z ∷ []) (lit (pos 1)) (at 0 ⊗ at 0) (scalar (spot 0) (spot 0)) (at 1 ⊗ at 1 ⊕ at 2 ⊗ at 2) (omega (arith, ints)) refl (search nonneg)

side_y : (g : Vector) → (g.y *ℤ g.y) ≤ℤ dot_of g g
side_y g = certify (g.x ∷ g.y ∷ g.z ∷ []) (lit (pos 1)) (at 1 ⊗ at 1) (scalar (spot 0) (spot 0)) (at 0 ⊗ at 0 ⊕ at 2 ⊗ at 2) (omega (arith, ints)) refl (search nonneg)

side_z : (g : Vector) → (g.z *ℤ g.z) ≤ℤ dot_of g g
side_z g = certify (g.x ∷ g.y ∷ g.z ∷ []) (lit (pos 1)) (at 2 ⊗ at 2) (scalar (spot 0) (spot 0)) (at 0 ⊗ at 0 ⊕ at 1 ⊗ at 1) (omega (arith, ints)) refl (search nonneg)

pub far_x : (t s : Face) (d : ℕ) (hi lo : ℤ) → t.a.x ≤ℤ hi → t.b.x ≤ℤ hi → t.c.x ≤ℤ hi → lo ≤ℤ s.a.x → lo ≤ℤ s.b.x → lo ≤ℤ s.c.x → (hi +ℤ pos d) <ℤ lo → FacesNear t s d → ⊥
far_x t s d hi lo ha hb hc hp hq hr h near =
    let c = near_no t s d near in let w = c.pose in let g = gap t s w in
    too_far w.n (lo -ℤ hi) (pos d) g.x (dot_of g g) c.close.n_positive (natural d) (omega (arith, ints, h)) (reach w t.a.x t.b.x t.c.x s.a.x s.b.x s.c.x hi lo c.nonneg ha hb hc hp hq hr) (side_x g) c.close.within

pub far_y : (t s : Face) (d : ℕ) (hi lo : ℤ) → t.a.y ≤ℤ hi → t.b.y ≤ℤ hi → t.c.y ≤ℤ hi → lo ≤ℤ s.a.y → lo ≤ℤ s.b.y → lo ≤ℤ s.c.y → (hi +ℤ pos d) <ℤ lo → FacesNear t s d → ⊥
far_y t s d hi lo ha hb hc hp hq hr h near =
    let c = near_no t s d near in let w = c.pose in let g = gap t s w in
    too_far w.n (lo -ℤ hi) (pos d) g.y (dot_of g g) c.close.n_positive (natural d) (omega (arith, ints, h)) (reach w t.a.y t.b.y t.c.y s.a.y s.b.y s.c.y hi lo c.nonneg ha hb hc hp hq hr) (side_y g) c.close.within

pub far_z : (t s : Face) (d : ℕ) (hi lo : ℤ) → t.a.z ≤ℤ hi → t.b.z ≤ℤ hi → t.c.z ≤ℤ hi → lo ≤ℤ s.a.z → lo ≤ℤ s.b.z → lo ≤ℤ s.c.z → (hi +ℤ pos d) <ℤ lo → FacesNear t s d → ⊥
far_z t s d hi lo ha hb hc hp hq hr h near =
    let c = near_no t s d near in let w = c.pose in let g = gap t s w in
    too_far w.n (lo -ℤ hi) (pos d) g.z (dot_of g g) c.close.n_positive (natural d) (omega (arith, ints, h)) (reach w t.a.z t.b.z t.c.z s.a.z s.b.z s.c.z hi lo c.nonneg ha hb hc hp hq hr) (side_z g) c.close.within

pub near_swaps : (t s : Face) (d : ℕ) → FacesNear t s d → FacesNear s t d
near_swaps t s d h = near_yes s t d (swapped s t (pos d *ℤ pos d) (near_no t s d h))
