use Rattle.std.proofs.Common.{◌∙◌, ap, sym, Bool, Option, cond, rules, w64, FitsSigned}
use Rattle.std.proofs.lemmas.Int.{to_z-of_z}
use Rattle.ear_cut.specs.declared.polygon_view.View.{View}
use Rattle.ear_cut.specs.declared.corners.Angle.TheVariants.{Straight, Reflex}
use Rattle.ear_cut.specs.PolygonViews.{Spot, area, seen}
use Rattle.ear_cut.specs.Registers.{as_spot}
use Rattle.ear_cut.specs.Corners.{angle_of, by_sign}
use Rattle.ear_cut.proofs.corners.angle_of.Goals as goal

pub returns-then-is_line : goal.returns-then-is_line
unfolding angle_of
returns-then-is_line c =
    sym (ap (λ (v : Option View). angle_of v c.args.t) c.in-None.is ∙ ap (λ (b : Bool). cond b Straight Reflex) (sym c.is_line.ensures ∙ c.if-is_line.true))

pub returns-else-is_line : goal.returns-else-is_line
unfolding angle_of
returns-else-is_line c =
    sym (ap (λ (v : Option View). angle_of v c.args.t) c.in-None.is ∙ ap (λ (b : Bool). cond b Straight Reflex) (sym c.is_line.ensures ∙ c.if-is_line.false))

pub returns-in-Some : goal.returns-in-Some
unfolding angle_of
returns-in-Some c =
    let view = c.in-Some.view in
    let a = as_spot c.seen.result in let b = as_spot c.seen-in-Some.result in let d = as_spot c.seen-in-Some-2.result in
    let p = c.args.t.before.point in let q = c.args.t.corner.point in
    let f : FitsSigned w64 c.area.result = search rules in
    c.by_sign.ensures ∙ (ap by_sign (to_z-of_z w64 c.area.result f ∙ (c.area.ensures
    ∙ (ap (λ (s : Spot). area view s b d) c.seen.ensures ∙ (ap (λ (s : Spot). area view (seen view.axis p) s d) c.seen-in-Some.ensures ∙ ap (λ (s : Spot). area view (seen view.axis p) (seen view.axis q) s) c.seen-in-Some-2.ensures))))
    ∙ sym (ap (λ (v : Option View). angle_of v c.args.t) c.in-Some.is))
