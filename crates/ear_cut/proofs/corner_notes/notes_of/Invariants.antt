use Rattle.std.proofs.Common.{◌≡◌, ℕ, ◌<◌, length}
use Rattle.std.specs.Prelude.{slice_index_or}
use Rattle.ear_cut.specs.inner.EarNotes.{blank, fresh}
use Rattle.ear_cut.proofs.corner_notes.notes_of.Given as goal

abbrev pub invariant-loop-i : goal.invariant-loop-i
invariant-loop-i l = record {
  count : length l.notes.items ≡ l.i;
  each : (k : ℕ) → k < l.i → slice_index_or l.notes.items k blank ≡ fresh l.view l.left k;
}
