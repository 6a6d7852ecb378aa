use Rattle.std.proofs.Common.{List, length, ap, ◌∙◌}
use Rattle.clash_delta.specs.declared.slot.Slot.{Slot}
use Rattle.clash_delta.specs.BucketProgress.{undone_cells}
use Rattle.clash_delta.proofs.Undone.{undone_count}
use Rattle.clash_delta.proofs.progress.Progress.left.Goals as goal

pub returns : goal.returns
returns c =
    c.len.ensures ∙ c.self.inside.undone.ok.0 ∙ ap length c.self.invariant.places ∙ undone_count c.self.inside.slots.items
    ∙ ap (λ (l : List Slot). length (undone_cells l)) c.self.view_is
