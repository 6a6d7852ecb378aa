-- A frame in a frame carries a point as the two do one after the other.
use Rattle.std.proofs.Common.{◌≡◌, ℤ, ◌+ℤ◌, ◌*ℤ◌, [], ◌∷◌, refl}
use Rattle.exact_arith.proofs.Ring.{ring, at, ◌⊕◌, ◌⊗◌}

-- one coordinate: the offset o of the outer frame, the components u, v, w of its axes, the inner frame's offset l, m, n and its axes a, b, c
pub composed : (o u v w l m n p q r a d e b f g c h i : ℤ) →
    (o +ℤ (l *ℤ u +ℤ m *ℤ v +ℤ n *ℤ w)) +ℤ (p *ℤ (a *ℤ u +ℤ d *ℤ v +ℤ e *ℤ w) +ℤ q *ℤ (b *ℤ u +ℤ f *ℤ v +ℤ g *ℤ w) +ℤ r *ℤ (c *ℤ u +ℤ h *ℤ v +ℤ i *ℤ w))
    ≡ o +ℤ ((l +ℤ (p *ℤ a +ℤ q *ℤ b +ℤ r *ℤ c)) *ℤ u +ℤ (m +ℤ (p *ℤ d +ℤ q *ℤ f +ℤ r *ℤ h)) *ℤ v +ℤ (n +ℤ (p *ℤ e +ℤ q *ℤ g +ℤ r *ℤ i)) *ℤ w)
composed o u v w l m n p q r a d e b f g c h i =
    let to = at 0 in let tu = at 1 in let tv = at 2 in let tw = at 3 in let tl = at 4 in let tm = at 5 in let tn = at 6 in
    let tp = at 7 in let tq = at 8 in let tr = at 9 in let ta = at 10 in let td = at 11 in let te = at 12 in
    let tb = at 13 in let tf = at 14 in let tg = at 15 in let tc = at 16 in let th = at 17 in let ti = at 18 in
    ring (o ∷ u ∷ v ∷ w ∷ l ∷ m ∷ n ∷ p ∷ q ∷ r ∷ a ∷ d ∷ e ∷ b ∷ f ∷ g ∷ c ∷ h ∷ i ∷ [])
    ((to ⊕ (tl ⊗ tu ⊕ tm ⊗ tv ⊕ tn ⊗ tw)) ⊕ (tp ⊗ (ta ⊗ tu ⊕ td ⊗ tv ⊕ te ⊗ tw) ⊕ tq ⊗ (tb ⊗ tu ⊕ tf ⊗ tv ⊕ tg ⊗ tw) ⊕ tr ⊗ (tc ⊗ tu ⊕ th ⊗ tv ⊕ ti ⊗ tw)))
    (to ⊕ ((tl ⊕ (tp ⊗ ta ⊕ tq ⊗ tb ⊕ tr ⊗ tc)) ⊗ tu ⊕ (tm ⊕ (tp ⊗ td ⊕ tq ⊗ tf ⊕ tr ⊗ th)) ⊗ tv ⊕ (tn ⊕ (tp ⊗ te ⊕ tq ⊗ tg ⊕ tr ⊗ ti)) ⊗ tw))
    refl
