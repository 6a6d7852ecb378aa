use Rattle.std.proofs.Common.{◌≡◌, ◌<◌, List, length, get_or, None, Some, refl, sym, ap, subst, arith, ◌∙◌}
use Rattle.std.specs.List.{slice_get}
use Rattle.bucket_grid.specs.declared.cell.Cell.{Cell}
use Rattle.clash_delta.specs.declared.slot.Slot.{Slot}
use Rattle.clash_delta.specs.BucketProgress.{undone_cells, IsBucketOf, IsDone}
use Rattle.clash_delta.proofs.Undone.{no_more}
use Rattle.clash_delta.proofs.Marked.{IsLeft, left_inside, left_at}
use Rattle.clash_delta.proofs.progress.Progress.undone.Goals as goal

pub returns-then-place-count-clause-cell : goal.returns-then-place-count-clause-cell
returns-then-place-count-clause-cell c =
    let count = c.len-count.ensures ∙ c.self.inside.undone.ok.0 in
    sym (no_more c.self.inside.slots.items c.self.inside.undone.items c.args.place c.self.invariant.places (omega (arith, count, c.if-place-count.true)))
    ∙ ap (λ (l : List Slot). slice_get (undone_cells l) c.args.place) c.self.view_is

pub index-requires : goal.index-requires
index-requires c =
    let count = c.len-count.ensures ∙ c.self.inside.undone.ok.0 in
    let low = left_inside c.self.inside.slots.items c.self.inside.undone.items c.args.place c.len-count.result c.index-slot.result.now c.self.invariant count (omega (arith, c.if-place-count.false)) c.index-slot.ensures in
    omega (arith, low, c.self.inside.slots.ok.0)

pub returns-clause-cell : goal.returns-clause-cell
returns-clause-cell c =
    let count = c.len-count.ensures ∙ c.self.inside.undone.ok.0 in
    let left = left_at c.self.inside.slots.items c.self.inside.undone.items c.args.place c.len-count.result c.index-slot.result.now c.index.result.now c.self.invariant count (omega (arith, c.if-place-count.false)) c.index-slot.ensures c.index.ensures in
    left.cell_is ∙ ap (λ (l : List Slot). slice_get (undone_cells l) c.args.place) c.self.view_is

pub returns-clause-bucket : goal.returns-clause-bucket
returns-clause-bucket c =
    let count = c.len-count.ensures ∙ c.self.inside.undone.ok.0 in
    let left = left_at c.self.inside.slots.items c.self.inside.undone.items c.args.place c.len-count.result c.index-slot.result.now c.index.result.now c.self.invariant count (omega (arith, c.if-place-count.false)) c.index-slot.ensures c.index.ensures in
    subst (λ (l : List Slot). IsBucketOf l c.index.result.now.cell) c.self.view_is left.bucket

pub returns-clause-undone : goal.returns-clause-undone
returns-clause-undone c =
    let count = c.len-count.ensures ∙ c.self.inside.undone.ok.0 in
    let left = left_at c.self.inside.slots.items c.self.inside.undone.items c.args.place c.len-count.result c.index-slot.result.now c.index.result.now c.self.invariant count (omega (arith, c.if-place-count.false)) c.index-slot.ensures c.index.ensures in
    subst (λ (l : List Slot). IsDone l c.index.result.now.cell → ⊥) c.self.view_is left.undone
