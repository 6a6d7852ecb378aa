use Rattle.std.proofs.Common.{◌≡◌, ◌++◌, map, take, drop}
use Rattle.ear_cut.specs.inner.EarNotes.{shifted}
use Rattle.ear_cut.proofs.corner_notes.shift.Given as goal

abbrev pub invariant-loop-note : goal.invariant-loop-note
invariant-loop-note l = l.notes ≡ map (shifted l.i) (take l.note-index l.initial.notes) ++ drop l.note-index l.initial.notes
