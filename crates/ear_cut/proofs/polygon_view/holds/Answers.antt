use Rattle.std.proofs.Common.{◌≡◌, ◌∙◌, ap, sym, ℤ, Bool, not, pos, int_lt, w64, FitsSigned, rules}
use Rattle.std.proofs.lemmas.Int.{to_z-of_z}
use Rattle.exact_arith.proofs.Ranges.{in_64}
use Rattle.ear_cut.specs.PolygonViews.{holds}
use Rattle.ear_cut.proofs.Parts.{fails, goes_on}
use Rattle.ear_cut.proofs.polygon_view.holds.Goals as goal

-- whether a computed area is below zero, as the callee saw it
told : (x y : ℤ) (r b : Bool) → x ≡ y → FitsSigned w64 x → r ≡ int_lt (in_64 x) (pos 0) → r ≡ b → int_lt y (pos 0) ≡ b
told x y r b e f h k = sym (ap (λ (t : ℤ). int_lt t (pos 0)) (to_z-of_z w64 x f ∙ e)) ∙ (sym h ∙ k)

pub returns-then-is_outside : goal.returns-then-is_outside
unfolding holds
returns-then-is_outside c = fails _ _ (told _ _ _ _ c.area.ensures (search rules) c.is_outside.ensures c.if-is_outside.true)

pub returns-then-is_outside-2 : goal.returns-then-is_outside-2
unfolding holds
returns-then-is_outside-2 c =
    goes_on _ _ _ (told _ _ _ _ c.area.ensures (search rules) c.is_outside.ensures c.if-is_outside.false)
    (fails _ _ (told _ _ _ _ c.area-2.ensures (search rules) c.is_outside-2.ensures c.if-is_outside-2.true))

pub returns-then-is_outside-3 : goal.returns-then-is_outside-3
unfolding holds
returns-then-is_outside-3 c =
    goes_on _ _ _ (told _ _ _ _ c.area.ensures (search rules) c.is_outside.ensures c.if-is_outside.false)
    (goes_on _ _ _ (told _ _ _ _ c.area-2.ensures (search rules) c.is_outside-2.ensures c.if-is_outside-2.false)
    (fails _ _ (told _ _ _ _ c.area-3.ensures (search rules) c.is_outside-3.ensures c.if-is_outside-3.true)))

pub returns : goal.returns
unfolding holds
returns c =
    goes_on _ _ _ (told _ _ _ _ c.area.ensures (search rules) c.is_outside.ensures c.if-is_outside.false)
    (goes_on _ _ _ (told _ _ _ _ c.area-2.ensures (search rules) c.is_outside-2.ensures c.if-is_outside-2.false)
    (goes_on _ _ _ (told _ _ _ _ c.area-3.ensures (search rules) c.is_outside-3.ensures c.if-is_outside-3.false) (ap not c.is_corner.ensures)))
