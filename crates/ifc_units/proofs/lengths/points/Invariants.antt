use Rattle.std.proofs.Common.{length}
use Rattle.ifc_units.proofs.PointFacts.{IsBehind}
use Rattle.ifc_units.proofs.lengths.points.Given as goal

abbrev pub invariant-loop-found : goal.invariant-loop-found
invariant-loop-found l = IsBehind l.scale l.mode l.values l.made.items l.left

abbrev pub decreases-loop-found : goal.decreases-loop-found
decreases-loop-found l = length l.left
