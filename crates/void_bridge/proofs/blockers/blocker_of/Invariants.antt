use Rattle.std.proofs.Common.{◌*◌, ◌<◌, ℕ, length}
use Rattle.void_bridge.specs.inner.Barriers.{as_segment, segments_of, run, IsPassed}
use Rattle.void_bridge.proofs.blockers.blocker_of.Given as goal

abbrev pub invariant-loop-b : goal.invariant-loop-b
invariant-loop-b l = (k : ℕ) → k < run * l.b → k < length (segments_of l.barriers) → IsPassed l.view (as_segment l.fn.bridge) (segments_of l.barriers) k
