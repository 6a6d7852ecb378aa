use Rattle.std.proofs.Common.{List, subst}
use Rattle.std.specs.List.{AllZip}
use Rattle.p21_values.specs.declared.value.Value21.{Value21}
use Rattle.p21_values.proofs.Turns.{ended}
use Rattle.faceset.specs.Indexes.{PointsAt}
use Rattle.faceset.proofs.Zips.{zip_push}
use Rattle.walk_rows.proofs.row_places.places_named.Goals as goal

pub loop-value-preserved : goal.loop-value-preserved
loop-value-preserved c =
    rw c.in_ok-push-in-Some-point_named.ensures.items (zip_push (PointsAt c.args.count) c.loop-value.yielded c.loop-value.made.items c.in-Some.value c.in-Some-point_named.place
    c.loop-value.invariant c.in-Some-point_named.ensures)

pub returns : goal.returns
returns c =
    let all = ended c.args.values.now c.loop-value.yielded (cc) _ c.loop-value.yielded_by _ c.in-None.is c.next.ensures.steps in
    subst (λ (vs : List Value21). AllZip (PointsAt c.args.count) vs c.loop-value.made.items) all c.loop-value.invariant
