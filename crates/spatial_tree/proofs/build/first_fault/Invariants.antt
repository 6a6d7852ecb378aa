use Rattle.std.proofs.Common.{ℕ, ◌<◌}
use Rattle.spatial_tree.specs.inner.TreeFaults.{IsFaulty}
use Rattle.spatial_tree.proofs.build.first_fault.Given as goal

abbrev pub invariant-loop-at : goal.invariant-loop-at
invariant-loop-at l = (k : ℕ) → k < l.at → IsFaulty l.steps l.marks k → ⊥
