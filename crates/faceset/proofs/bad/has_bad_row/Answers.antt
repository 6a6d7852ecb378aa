use Rattle.std.proofs.Common.{rules, Any}
use Rattle.p21_values.specs.Attributes.{items_in}
use Rattle.p21_values.proofs.Turns.{turn, ended}
use Rattle.ifc_instances.proofs.Scans.{any_past, any_next}
use Rattle.faceset.specs.Indexes.{PointsNowhere}
use Rattle.faceset.proofs.Anys.{any_mapped, any_unmap}
use Rattle.faceset.proofs.bad.has_bad_row.Goals as goal

pub returns-then-has_bad_item : goal.returns-then-has_bad_item
returns-then-has_bad_item c =
    let t = turn c.args.rows.now c.loop-row.yielded (cc) _ c.loop-row.yielded_by _ c.in-Some.is c.next.ensures.steps in
    any_mapped items_in (Any (PointsNowhere c.args.count)) c.args.rows.now _ c.in-Some.row t.0 t.1 (search rules)

pub loop-row-preserved : goal.loop-row-preserved
loop-row-preserved c = any_next (λ v. Any (PointsNowhere c.args.count) (items_in v)) c.loop-row.yielded c.in-Some.row (search rules) c.loop-row.invariant

pub returns : goal.returns
returns c = λ bad.
    let all = ended c.args.rows.now c.loop-row.yielded (cc) _ c.loop-row.yielded_by _ c.in-None.is c.next.ensures.steps in
    any_past (λ v. Any (PointsNowhere c.args.count) (items_in v)) c.args.rows.now c.loop-row.yielded all c.loop-row.invariant
    (any_unmap items_in (Any (PointsNowhere c.args.count)) c.args.rows.now bad)
