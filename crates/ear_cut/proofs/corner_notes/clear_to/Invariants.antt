use Rattle.std.proofs.Common.{◌≡◌, ◌*◌, ◌<◌, ℕ, true, Some, length}
use Rattle.std.specs.Prelude.{slice_index_or}
use Rattle.ear_cut.specs.Corners.{nobody}
use Rattle.ear_cut.specs.Removal.{is_free}
use Rattle.ear_cut.specs.inner.CornerFrames.{run}
use Rattle.ear_cut.proofs.corner_notes.clear_to.Given as goal

abbrev pub invariant-loop-b : goal.invariant-loop-b
invariant-loop-b l = (k : ℕ) → k < run * l.b → k < length l.left → is_free (Some l.view) l.fn.t (slice_index_or l.left k nobody) ≡ true
