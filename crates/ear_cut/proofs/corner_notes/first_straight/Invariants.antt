use Rattle.std.proofs.Common.{◌≡◌, ◌<◌, ℕ, false}
use Rattle.std.specs.Prelude.{slice_index_or}
use Rattle.ear_cut.specs.Corners.{is_straight}
use Rattle.ear_cut.specs.inner.EarNotes.{blank}
use Rattle.ear_cut.proofs.corner_notes.first_straight.Given as goal

abbrev pub invariant-loop-i : goal.invariant-loop-i
invariant-loop-i l = (k : ℕ) → k < l.i → is_straight (slice_index_or l.notes k blank).angle ≡ false
