use Rattle.std.proofs.Common.{ℕ, ◌<◌}
use Rattle.ifc_schema.specs.InstanceMarks.{Grows, IsRootAt, rank_at}
use Rattle.ifc_schema.proofs.visit.mark_roots.Given as goal

abbrev pub invariant-loop-at : goal.invariant-loop-at
invariant-loop-at l = record {
  grows : Grows l.exchange l.initial.work l.work;
  roots : (k : ℕ) → k < l.at → IsRootAt l.exchange k → 0 < rank_at l.work k;
}
