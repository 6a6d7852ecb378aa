use Rattle.std.proofs.Common.{◌≡◌, ◌<◌, ℕ, None}
use Rattle.void_bridge.specs.Bridges.{bridge_from}
use Rattle.void_bridge.specs.inner.Barriers.{segments_of}
use Rattle.void_bridge.proofs.bridges.bridge_to.Given as goal

abbrev pub invariant-loop-i : goal.invariant-loop-i
invariant-loop-i l = (m : ℕ) → m < l.i → bridge_from l.view (segments_of l.barriers) l.current l.hole l.fn.k m ≡ None
