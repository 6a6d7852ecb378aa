use Rattle.std.proofs.Common.{ℕ, ◌<◌}
use Rattle.ear_cut.specs.inner.Fans.{IsFanAt}
use Rattle.ear_cut.proofs.fans.is_fan.Given as goal

abbrev pub invariant-loop-i : goal.invariant-loop-i
invariant-loop-i l = (k : ℕ) → 0 < k → k < l.i → IsFanAt l.view l.left k
