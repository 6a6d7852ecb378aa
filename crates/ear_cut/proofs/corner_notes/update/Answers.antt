use Rattle.std.proofs.Common.{◌∙◌, ap, sym, subst, List, set}
use Rattle.ear_cut.specs.declared.corner_notes.Note.{Note}
use Rattle.ear_cut.specs.inner.EarNotes.{IsNoted, fresh}
use Rattle.ear_cut.proofs.Taken.{updated}
use Rattle.ear_cut.proofs.corner_notes.update.Goals as goal

pub returns : goal.returns
returns c =
    let view = c.args.view in let left = c.args.left.now in let b = c.previous.result in let a = c.place_behind-after.result in
    let e = c.renew-2.ensures ∙ ap (λ (xs : List Note). set xs a (fresh view left a)) (c.renew.ensures ∙ ap (λ (xs : List Note). set xs b (fresh view left b)) c.shift.ensures) in
    subst (λ (xs : List Note). IsNoted view left xs) (sym e) (updated view left c.args.notes.now c.args.i a b c.requires.taken c.place_behind-after.ensures c.previous.ensures.value)
