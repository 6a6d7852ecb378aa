use Rattle.std.proofs.Common.{◌∙◌, ap, rules, w64, FitsSigned}
use Rattle.std.proofs.lemmas.Int.{to_z-of_z}
use Rattle.ear_cut.specs.PolygonViews.{Spot, area}
use Rattle.ear_cut.specs.Registers.{as_spot}
use Rattle.ear_cut.specs.inner.Fans.{spot_at}
use Rattle.ear_cut.proofs.fans.area_at.Goals as goal

pub returns : goal.returns
returns c =
    let view = c.args.view in let left = c.args.left.now in
    let f : FitsSigned w64 c.area.result = search rules in
    to_z-of_z w64 c.area.result f ∙ (c.area.ensures
    ∙ (ap (λ (s : Spot). area view s (as_spot c.spot_at-2.result) (as_spot c.spot_at-3.result)) c.spot_at.ensures
    ∙ (ap (λ (s : Spot). area view (spot_at view left c.args.i) s (as_spot c.spot_at-3.result)) c.spot_at-2.ensures
    ∙ ap (λ (s : Spot). area view (spot_at view left c.args.i) (spot_at view left c.args.j) s) c.spot_at-3.ensures)))
