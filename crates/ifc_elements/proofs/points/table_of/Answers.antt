use Rattle.std.proofs.Common.{List, subst}
use Rattle.p21_values.specs.declared.value.Instance.{Instance}
use Rattle.p21_values.proofs.Turns.{ended}
use Rattle.ifc_elements.specs.PointTables.{IsTable}
use Rattle.ifc_elements.proofs.TablesOfPoints.{tabled_more}
use Rattle.ifc_elements.proofs.points.table_of.Goals as goal

pub loop-instance-preserved : goal.loop-instance-preserved
loop-instance-preserved c =
    tabled_more c.args.scale c.args.mode c.loop-instance.yielded c.loop-instance.table.items c.push.new.self.items c.in-Some.instance c.in_ok-points.points
    c.in_ok-points.ensures c.in_ok-push.ensures.items c.loop-instance.invariant

pub returns : goal.returns
returns c =
    subst (λ (is : List Instance). IsTable is c.args.scale c.args.mode c.loop-instance.table.items) (ended c.args.instances.now c.loop-instance.yielded (cc) _ c.loop-instance.yielded_by _ c.in-None.is c.next.ensures.steps)
    c.loop-instance.invariant
