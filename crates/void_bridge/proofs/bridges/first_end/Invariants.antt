use Rattle.std.proofs.Common.{◌≡◌, ◌<◌, ℕ, false}
use Rattle.std.specs.Prelude.{slice_index_or}
use Rattle.ear_cut.specs.Corners.{nobody}
use Rattle.void_bridge.specs.Bridges.{is_free}
use Rattle.void_bridge.specs.inner.Barriers.{segments_of}
use Rattle.void_bridge.proofs.bridges.first_end.Given as goal

abbrev pub invariant-loop-j : goal.invariant-loop-j
invariant-loop-j l = (k : ℕ) → k < l.j → is_free l.view (segments_of l.barriers) l.fn.t (slice_index_or l.hole k nobody) ≡ false
