use Rattle.std.proofs.Common.{◌≡◌, ◌<◌, ◌≤◌, ℕ, true, Some}
use Rattle.std.specs.Prelude.{slice_index_or}
use Rattle.ear_cut.specs.Corners.{nobody}
use Rattle.ear_cut.specs.Removal.{is_free}
use Rattle.ear_cut.proofs.corner_notes.clear_in.Given as goal

abbrev pub invariant-loop-i : goal.invariant-loop-i
invariant-loop-i l = (k : ℕ) → l.start ≤ k → k < l.i → is_free (Some l.view) l.fn.t (slice_index_or l.left k nobody) ≡ true
