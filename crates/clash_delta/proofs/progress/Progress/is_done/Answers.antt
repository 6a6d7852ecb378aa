use Rattle.std.proofs.Common.{List, get_or, subst, ap, ◌∙◌}
use Rattle.clash_delta.specs.declared.slot.Slot.{Slot}
use Rattle.clash_delta.specs.BucketPlaces.{Rise}
use Rattle.clash_delta.proofs.Marked.{done_told}
use Rattle.clash_delta.proofs.progress.Progress.is_done.Goals as goal

pub returns-in-Some : goal.returns-in-Some
returns-in-Some c =
    let rise = subst (λ (l : List Slot). Rise l) c.self.view_is c.self.invariant.rising in
    let is = c.index.ensures ∙ ap (λ (l : List Slot). get_or l c.in-Some.place c.index.result.now) c.self.view_is in
    done_told c.args.self.now c.args.cell c.in-Some.place c.index.result.now c.is_some.result rise c.in-Some.ensures is c.is_some.ensures
