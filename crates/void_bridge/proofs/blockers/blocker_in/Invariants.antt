use Rattle.std.proofs.Common.{◌<◌, ◌≤◌, ℕ, map}
use Rattle.void_bridge.specs.inner.Barriers.{as_segment, IsPassed}
use Rattle.void_bridge.proofs.blockers.blocker_in.Given as goal

abbrev pub invariant-loop-i : goal.invariant-loop-i
invariant-loop-i l = (k : ℕ) → l.start ≤ k → k < l.i → IsPassed l.view (as_segment l.fn.bridge) (map as_segment l.edges) k
