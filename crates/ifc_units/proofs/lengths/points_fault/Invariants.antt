use Rattle.std.proofs.Common.{List, length}
use Rattle.bim_model.specs.declared.geometry.Point.{Point}
use Rattle.ifc_units.proofs.PointFacts.{IsBehind}
use Rattle.ifc_units.proofs.lengths.points_fault.Given as goal

abbrev pub invariant-loop-found : goal.invariant-loop-found
invariant-loop-found l = (ps : List Point) × IsBehind l.scale l.mode l.values ps l.left

abbrev pub decreases-loop-found : goal.decreases-loop-found
decreases-loop-found l = length l.left
