use Rattle.spatial_tree.proofs.Marking.{Climbing, unseen_count}
use Rattle.spatial_tree.proofs.mark.climb.Given as goal

abbrev pub invariant-loop-next : goal.invariant-loop-next
invariant-loop-next l = Climbing l.steps l.initial.marks l.marks l.way.items l.next l.start

abbrev pub decreases-loop-next : goal.decreases-loop-next
decreases-loop-next l = unseen_count l.marks
