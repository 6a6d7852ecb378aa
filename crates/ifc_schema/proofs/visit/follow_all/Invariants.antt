use Rattle.std.proofs.Common.{ℕ, ◌<◌}
use Rattle.ifc_schema.specs.InstanceMarks.{Going, rank_at, weight}
use Rattle.ifc_schema.proofs.visit.follow_all.Given as goal

abbrev pub invariant-loop-at : goal.invariant-loop-at
invariant-loop-at l = record {
  going : Going l.exchange l.work;
  grows : (at : ℕ) → 0 < rank_at l.initial.work at → 0 < rank_at l.work at;
}

abbrev pub decreases-loop-at : goal.decreases-loop-at
decreases-loop-at l = weight l.work
