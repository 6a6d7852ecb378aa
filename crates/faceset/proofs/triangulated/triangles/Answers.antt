use Rattle.std.proofs.Common.{option_copied, List, subst}
use Rattle.p21_values.specs.declared.value.Value21.{Value21}
use Rattle.faceset.specs.FaceSets.{IsTriangle, AreTriangles}
use Rattle.p21_values.proofs.Turns.{ended}
use Rattle.faceset.proofs.Zips.{zip_push}
use Rattle.faceset.proofs.triangulated.triangles.Goals as goal

pub loop-row-preserved : goal.loop-row-preserved
loop-row-preserved c =
    rw c.in_ok-push-in-Some-triangle.ensures.items (zip_push (IsTriangle (option_copied c.args.numbers) c.args.points.now) c.loop-row.yielded c.loop-row.made.items c.in-Some.row c.in-Some-triangle.triangle
    c.loop-row.invariant c.in-Some-triangle.ensures)

pub returns : goal.returns
returns c =
    let all = ended c.args.rows.now c.loop-row.yielded (cc) _ c.loop-row.yielded_by _ c.in-None.is c.next.ensures.steps in
    subst (λ (rows : List Value21). AreTriangles (option_copied c.args.numbers) c.args.points.now rows c.loop-row.made.items) all c.loop-row.invariant
