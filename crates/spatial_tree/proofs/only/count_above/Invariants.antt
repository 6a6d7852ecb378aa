use Rattle.spatial_tree.specs.inner.Onlys.{Counts}
use Rattle.spatial_tree.proofs.Counting.{HasBefore}
use Rattle.spatial_tree.proofs.only.count_above.Given as goal

abbrev pub invariant-loop-at : goal.invariant-loop-at
invariant-loop-at l = Counts (HasBefore l.links l.at l.object) l.only
