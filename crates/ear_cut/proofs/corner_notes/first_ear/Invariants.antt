use Rattle.std.proofs.Common.{◌≡◌, ◌<◌, ℕ, false, Some}
use Rattle.ear_cut.specs.Corners.{turn_at}
use Rattle.ear_cut.specs.Removal.{is_ear}
use Rattle.ear_cut.specs.inner.EarNotes.{IsNoted}
use Rattle.ear_cut.proofs.corner_notes.first_ear.Given as goal

abbrev pub invariant-loop-i : goal.invariant-loop-i
invariant-loop-i l = record {
  none : (k : ℕ) → k < l.i → is_ear (Some l.view) l.left (turn_at l.left k) ≡ false;
  noted : IsNoted (Some l.view) l.left l.notes;
}
