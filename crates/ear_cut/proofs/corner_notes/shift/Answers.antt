use Rattle.std.proofs.Common.{◌∙◌, ◌<◌, ap, set, length, get_or, arith}
use Rattle.std.proofs.lemmas.List.{get_or_default}
use Rattle.std.proofs.lemmas.List.Edits.{map_over_more}
use Rattle.ear_cut.specs.inner.EarNotes.{shifted, blank}
use Rattle.ear_cut.proofs.corner_notes.shift.Goals as goal

pub loop-note-preserved : goal.loop-note-preserved
loop-note-preserved c =
    let now = c.loop-note.notes in let k = c.loop-note.note-index in
    let w : k < length now = omega (arith, c.loop-note.auto.notes, c.loop-note-test.true) in
    ap (set now k) c.shift_note.ensures
    ∙ map_over_more (shifted c.args.i) c.args.notes.now now k (get_or now k blank) c.loop-note-test.true c.loop-note.invariant (get_or_default now k blank (get_or now k blank) w)
