use Rattle.std.proofs.Common.{rules}
use Rattle.p21_values.proofs.Turns.{ended}
use Rattle.ifc_instances.proofs.Scans.{any_past, any_next}
use Rattle.faceset.specs.Indexes.{PointsNowhere}
use Rattle.faceset.proofs.bad.has_bad_item.Goals as goal

pub loop-value-preserved : goal.loop-value-preserved
loop-value-preserved c = any_next (PointsNowhere c.args.count) c.loop-value.yielded c.in-Some.value (search rules) c.loop-value.invariant

pub returns : goal.returns
returns c =
    let all = ended c.args.values.now c.loop-value.yielded (cc) _ c.loop-value.yielded_by _ c.in-None.is c.next.ensures.steps in
    any_past (PointsNowhere c.args.count) c.args.values.now c.loop-value.yielded all c.loop-value.invariant
