use Rattle.spatial_tree.proofs.Marking.{unlooped_count}
use Rattle.spatial_tree.proofs.Settles.{Rounding}
use Rattle.spatial_tree.proofs.mark.mark_loop.Given as goal

abbrev pub invariant-loop-next : goal.invariant-loop-next
invariant-loop-next l = Rounding l.steps l.initial.marks l.marks l.next l.start

abbrev pub decreases-loop-next : goal.decreases-loop-next
decreases-loop-next l = unlooped_count l.marks
