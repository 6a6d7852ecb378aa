use Rattle.ifc_elements.specs.PointTables.{IsTable}
use Rattle.ifc_elements.proofs.points.table_of.Given as goal

abbrev pub invariant-loop-instance : goal.invariant-loop-instance
invariant-loop-instance l = IsTable l.yielded l.scale l.mode l.table.items
