use Rattle.std.proofs.Common.{◌≡◌, ◌<◌, ℕ, [], length, None}
use Rattle.std.specs.Prelude.{slice_index_or, map}
use Rattle.void_bridge.specs.Bridges.{first_found, bridge_from}
use Rattle.void_bridge.specs.inner.Barriers.{segments_of}
use Rattle.void_bridge.proofs.bridges.first_bridge.Given as goal

abbrev pub invariant-loop-k : goal.invariant-loop-k
invariant-loop-k l = (m : ℕ) → m < l.k → first_found (bridge_from l.view (segments_of l.barriers) l.current (slice_index_or (map (λ hole. hole.items) l.holes) m []) m) 0 (length l.current) ≡ None
