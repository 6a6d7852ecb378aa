use Rattle.std.proofs.Common.{List, Vec, Global, sym, subst}
use Rattle.std.specs.Result.{MatchResult}
use Rattle.bim_model.specs.declared.geometry.Point.{Point}
use Rattle.p21_values.specs.declared.value.Value21.{Value21}
use Rattle.ifc_units.specs.Lengths.{ArePoints, PointsRefused, Fails}
use Rattle.ifc_elements.proofs.TablesOfPoints.{failed_none}
use Rattle.ifc_elements.proofs.points.points_of.Goals as goal

pub returns-in-Err : goal.returns-in-Err
returns-in-Err c = λ points l.
    failed_none c.args.scale c.args.mode c.listed.result c.in-Err._error points (subst (λ r. MatchResult r (λ (made : Vec Point Global). ArePoints c.args.scale c.args.mode c.listed.result made.items) (Fails (ArePoints c.args.scale c.args.mode c.listed.result) (PointsRefused c.args.scale c.args.mode c.listed.result))) c.in-Err.is c.in_ok-points.ensures)
    (subst (λ (vs : List Value21). ArePoints c.args.scale c.args.mode vs points) (sym c.listed.ensures) l.are)
