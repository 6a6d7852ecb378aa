use Rattle.std.proofs.Common.{◌∙◌, ap, rules, w64, FitsSigned}
use Rattle.std.proofs.lemmas.Int.{to_z-of_z}
use Rattle.exact_arith.proofs.Ranges.{in_64}
use Rattle.ear_cut.specs.PolygonViews.{component}
use Rattle.bim_model.specs.Polygons.{normal_of}
use Rattle.void_bridge.proofs.HolesRead.{below_reversed, above_kept}
use Rattle.void_bridge.proofs.hole_loops.turns_as_outer.Goals as goal

pub returns-then-view : goal.returns-then-view
returns-then-view c =
    let view = c.args.view in let x = c.component-area.result in
    let f : FitsSigned w64 x = search rules in
    below_reversed view.reversed (in_64 x) (component view.axis (normal_of c.args.points.now)) c.if-view.true (to_z-of_z w64 x f ∙ (c.component-area.ensures ∙ ap (component view.axis) c.normal_of.ensures))

pub returns-else-view : goal.returns-else-view
returns-else-view c =
    let view = c.args.view in let x = c.component-area.result in
    let f : FitsSigned w64 x = search rules in
    above_kept view.reversed (in_64 x) (component view.axis (normal_of c.args.points.now)) c.if-view.false (to_z-of_z w64 x f ∙ (c.component-area.ensures ∙ ap (component view.axis) c.normal_of.ensures))
