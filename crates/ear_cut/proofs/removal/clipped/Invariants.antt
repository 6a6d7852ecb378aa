use Rattle.std.proofs.Common.{◌≡◌, ◌+◌, ◌-◌, length}
use Rattle.ear_cut.specs.Corners.{AreInGrid}
use Rattle.ear_cut.specs.Removal.{cut_by}
use Rattle.ear_cut.specs.inner.EarNotes.{IsNoted}
use Rattle.ear_cut.specs.inner.CornerFrames.{AreFramesIn}
use Rattle.ear_cut.proofs.Steps.{behind}
use Rattle.ear_cut.proofs.removal.clipped.Given as goal

abbrev pub invariant-loop-step : goal.invariant-loop-step
invariant-loop-step l = record {
  count : length l.left.items + l.step ≡ length l.initial.left.items + 3;
  in_grid : AreInGrid l.left.items;
  noted : IsNoted l.view l.left.items l.notes.items;
  framed : AreFramesIn l.view l.left.items l.frames;
  whole : cut_by l.view (length l.initial.left.items - 3) l.initial.left.items ≡ behind l.ears.items (cut_by l.view (length l.initial.left.items - l.step) l.left.items);
}
