use Rattle.std.proofs.Common.{◌∙◌, ap, sym, ℤ, Bool, pos, ◌-ℤ◌}
use Rattle.exact_arith.proofs.Ranges.{value_kept_64, zero_kept, difference_kept, kept_64}
use Rattle.ear_cut.specs.PolygonViews.{area, bend, signed}
use Rattle.ear_cut.specs.Registers.{as_spot}
use Rattle.ear_cut.proofs.polygon_view.area.Goals as goal

pub returns-then-view : goal.returns-then-view
unfolding area
returns-then-view c =
    let a = as_spot c.args.a in let b = as_spot c.args.b in let d = as_spot c.args.c in
    (kept_64 (difference_kept zero_kept (value_kept_64 c.bend-bend.result c.bend-bend.ensures.small tt)) tt).same
    ∙ (ap (λ (x : ℤ). pos 0 -ℤ x) c.bend-bend.ensures.value ∙ sym (ap (λ (r : Bool). signed r (bend a b d)) c.if-view.true))

pub returns-else-view : goal.returns-else-view
unfolding area
returns-else-view c =
    let a = as_spot c.args.a in let b = as_spot c.args.b in let d = as_spot c.args.c in
    (value_kept_64 c.bend-bend.result c.bend-bend.ensures.small tt).same
    ∙ (c.bend-bend.ensures.value ∙ sym (ap (λ (r : Bool). signed r (bend a b d)) c.if-view.false))
