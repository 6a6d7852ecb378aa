-- Areas of triangles with a common corner.
use Rattle.std.proofs.Common.{◌≡◌, ◌∙◌, ap, sym, refl, subst, ℤ, pos, negsuc, zero, suc, ◌+ℤ◌, ◌-ℤ◌, ◌*ℤ◌, ◌<ℤ◌, Bool, true, false, [], ◌∷◌, arith}
use Rattle.std.proofs.lemmas.Int.{ints}
use Rattle.exact_arith.proofs.Ring.{ring, Term, at, lit, ◌⊕◌, ◌⊖◌, ◌⊗◌}
use Rattle.exact_arith.proofs.Order.{mul_positive}
use Rattle.ear_cut.specs.declared.polygon_view.View.{View}
use Rattle.ear_cut.specs.declared.corners.Angle.TheVariants.{Convex}
use Rattle.ear_cut.specs.PolygonViews.{Spot, bend, signed, area}
use Rattle.ear_cut.specs.Corners.{by_sign}

abbrev pub bent : Term → Term → Term → Term → Term → Term → Term
bent au av bu bv cu cv = (bu ⊖ au) ⊗ (cv ⊖ bv) ⊖ (bv ⊖ av) ⊗ (cu ⊖ bu)

cyclic : (r : Bool) (a b c : Spot) → signed r (bend b c a) ≡ signed r (bend a b c)
cyclic r a b c = ap (signed r) (ring (a.u ∷ a.v ∷ b.u ∷ b.v ∷ c.u ∷ c.v ∷ []) (bent (at 2) (at 3) (at 4) (at 5) (at 0) (at 1)) (bent (at 0) (at 1) (at 2) (at 3) (at 4) (at 5)) refl)

turned : (a b c : Spot) → bend b a c ≡ pos 0 -ℤ bend a b c
turned a b c = ring (a.u ∷ a.v ∷ b.u ∷ b.v ∷ c.u ∷ c.v ∷ []) (bent (at 2) (at 3) (at 0) (at 1) (at 4) (at 5)) (lit (pos 0) ⊖ bent (at 0) (at 1) (at 2) (at 3) (at 4) (at 5)) refl

pub area_cyclic : (view : View) (a b c : Spot) → area view b c a ≡ area view a b c
unfolding area
area_cyclic view a b c = cyclic view.reversed a b c

pub area_turned : (view : View) (a b c : Spot) → area view b a c ≡ pos 0 -ℤ area view a b c
unfolding area
area_turned view a b c = by_side view.reversed
  where
    by_side : (r : Bool) → signed r (bend b a c) ≡ pos 0 -ℤ signed r (bend a b c)
    by_side true = ap (λ (x : ℤ). pos 0 -ℤ x) (turned a b c)
    by_side false = turned a b c

-- four rays from o
four : (o h u v w : Spot) → bend o h v *ℤ bend o u w ≡ bend o h u *ℤ bend o v w +ℤ bend o h w *ℤ bend o u v
four o h u v w =
    ring (o.u ∷ o.v ∷ h.u ∷ h.v ∷ u.u ∷ u.v ∷ v.u ∷ v.v ∷ w.u ∷ w.v ∷ [])
    (bent (at 0) (at 1) (at 2) (at 3) (at 6) (at 7) ⊗ bent (at 0) (at 1) (at 4) (at 5) (at 8) (at 9))
    (bent (at 0) (at 1) (at 2) (at 3) (at 4) (at 5) ⊗ bent (at 0) (at 1) (at 6) (at 7) (at 8) (at 9) ⊕ bent (at 0) (at 1) (at 2) (at 3) (at 8) (at 9) ⊗ bent (at 0) (at 1) (at 4) (at 5) (at 6) (at 7)) refl

minus_twice : (a b : ℤ) → (pos 0 -ℤ a) *ℤ (pos 0 -ℤ b) ≡ a *ℤ b
minus_twice a b = ring (a ∷ b ∷ []) ((lit (pos 0) ⊖ at 0) ⊗ (lit (pos 0) ⊖ at 1)) (at 0 ⊗ at 1) refl

area_four : (view : View) (o h u v w : Spot) → area view o h v *ℤ area view o u w ≡ area view o h u *ℤ area view o v w +ℤ area view o h w *ℤ area view o u v
unfolding area
area_four view o h u v w = by_side view.reversed
  where
    by_side : (r : Bool) → signed r (bend o h v) *ℤ signed r (bend o u w) ≡ signed r (bend o h u) *ℤ signed r (bend o v w) +ℤ signed r (bend o h w) *ℤ signed r (bend o u v)
    by_side false = four o h u v w
    by_side true =
        minus_twice (bend o h v) (bend o u w) ∙ (four o h u v w
        ∙ sym (ap (λ (x : ℤ). x +ℤ (pos 0 -ℤ bend o h w) *ℤ (pos 0 -ℤ bend o u v)) (minus_twice (bend o h u) (bend o v w)) ∙ ap (λ (x : ℤ). bend o h u *ℤ bend o v w +ℤ x) (minus_twice (bend o h w) (bend o u v))))

cancel_positive : (c a : ℤ) → pos 0 <ℤ c → pos 0 <ℤ (c *ℤ a) → pos 0 <ℤ a
cancel_positive c (pos (suc a)) h k = omega (arith, ints)
cancel_positive c (pos zero) h k = absurd (omega (arith, ints, k))
cancel_positive (pos (suc c)) (negsuc a) h k = absurd (omega (arith, ints, k))
cancel_positive (pos zero) (negsuc a) h k = absurd (omega (arith, ints, h))
cancel_positive (negsuc c) (negsuc a) h k = absurd (omega (arith, ints, h))

add_positive : (a b : ℤ) → pos 0 <ℤ a → pos 0 <ℤ b → pos 0 <ℤ (a +ℤ b)
add_positive a b h k = omega (arith, ints)

-- w is after v, v is after u, and all are less than half a turn after h: so w is after u
pub area_behind : (view : View) (o h u v w : Spot) → pos 0 <ℤ area view o h u → pos 0 <ℤ area view o h v → pos 0 <ℤ area view o h w → pos 0 <ℤ area view o u v → pos 0 <ℤ area view o v w → pos 0 <ℤ area view o u w
area_behind view o h u v w hu hv hw uv vw =
    cancel_positive (area view o h v) (area view o u w) hv
    (subst (λ (x : ℤ). pos 0 <ℤ x) (sym (area_four view o h u v w))
    (add_positive (area view o h u *ℤ area view o v w) (area view o h w *ℤ area view o u v) (mul_positive (area view o h u) (area view o v w) hu vw) (mul_positive (area view o h w) (area view o u v) hw uv)))

pub convex_sign : (x : ℤ) → pos 0 <ℤ x → by_sign x ≡ Convex
convex_sign (pos (suc n)) h = refl
convex_sign (pos zero) h = absurd (omega (arith, ints, h))
convex_sign (negsuc n) h = absurd (omega (arith, ints, h))
