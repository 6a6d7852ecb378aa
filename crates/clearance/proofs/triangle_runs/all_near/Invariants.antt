use Rattle.std.proofs.Common.{ℕ, ◌<◌}
use Rattle.clearance.specs.inner.TriangleRuns.{NoneInRow}
use Rattle.clearance.proofs.triangle_runs.all_near.Given as goal

abbrev pub invariant-loop-start : goal.invariant-loop-start
invariant-loop-start l = (i : ℕ) → i < l.start → NoneInRow l.ps i l.qs l.fn.d
