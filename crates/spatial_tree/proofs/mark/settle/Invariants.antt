use Rattle.std.proofs.Common.{vec_len}
use Rattle.spatial_tree.specs.inner.StoreyMarks.{Settling, KeepsSeen}
use Rattle.spatial_tree.proofs.mark.settle.Given as goal

abbrev pub invariant-loop-at : goal.invariant-loop-at
invariant-loop-at l = record { settling : Settling l.steps l.marks l.way.items; seen : KeepsSeen l.initial.marks l.marks }

abbrev pub decreases-loop-at : goal.decreases-loop-at
decreases-loop-at l = vec_len l.way
