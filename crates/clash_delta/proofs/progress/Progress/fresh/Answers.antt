use Rattle.std.proofs.Common.{◌≡◌, List, length, map, take, sym, ap, subst, arith, ◌∙◌}
use Rattle.std.proofs.lemmas.List.{take_all}
use Rattle.std.proofs.lemmas.Result.{IfOk-weaker}
use Rattle.bucket_grid.specs.declared.cell.Cell.{Cell}
use Rattle.bucket_grid.specs.declared.bucket_table.Bucket.{Bucket}
use Rattle.bucket_grid.specs.BucketTable.{IsTable}
use Rattle.clash_delta.specs.declared.slot.Slot.{Slot}
use Rattle.clash_delta.specs.BucketProgress.{undone_cells, IsDone, IsOf}
use Rattle.clash_delta.specs.BucketPlaces.{Rise}
use Rattle.clash_delta.proofs.Fresh.{empty, empty_rise, empty_of, empty_none, empty_left}
use Rattle.clash_delta.proofs.progress.Progress.fresh.Goals as goal

pub of-requires : goal.of-requires
of-requires c =
    let whole = c.loop-bucket.invariant ∙ ap (map empty) (take_all c.loop-bucket.bucket-index c.args.grid.now.buckets (omega (arith, c.loop-bucket-test.false, ap length c.buckets-bucket-items.ensures.buckets))) in
    let table = subst (λ (l : List Bucket). IsTable c.args.grid.now.boxes l) c.buckets.ensures.buckets c.buckets.ensures.table in
    subst (λ (l : List Slot). Rise l) (sym whole) (empty_rise c.args.grid.now.buckets table.rising)

pub returns-clause-of : goal.returns-clause-of
returns-clause-of c =
    let whole = c.loop-bucket.invariant ∙ ap (map empty) (take_all c.loop-bucket.bucket-index c.args.grid.now.buckets (omega (arith, c.loop-bucket-test.false, ap length c.buckets-bucket-items.ensures.buckets))) in
    IfOk-weaker c.of.result (λ (l : List Slot). l ≡ c.loop-bucket.slots.items) (λ (l : List Slot). IsOf c.args.grid.now l) (λ l e. subst (λ (m : List Slot). IsOf c.args.grid.now m) (sym (e ∙ whole)) (empty_of c.args.grid.now)) c.of.ensures

pub returns-clause-none : goal.returns-clause-none
returns-clause-none c =
    let whole = c.loop-bucket.invariant ∙ ap (map empty) (take_all c.loop-bucket.bucket-index c.args.grid.now.buckets (omega (arith, c.loop-bucket-test.false, ap length c.buckets-bucket-items.ensures.buckets))) in
    IfOk-weaker c.of.result (λ (l : List Slot). l ≡ c.loop-bucket.slots.items) (λ (l : List Slot). (cell : Cell) → IsDone l cell → ⊥) (λ l e. subst (λ (m : List Slot). (cell : Cell) → IsDone m cell → ⊥) (sym (e ∙ whole)) (empty_none c.args.grid.now.buckets)) c.of.ensures

pub returns-clause-left : goal.returns-clause-left
returns-clause-left c =
    let whole = c.loop-bucket.invariant ∙ ap (map empty) (take_all c.loop-bucket.bucket-index c.args.grid.now.buckets (omega (arith, c.loop-bucket-test.false, ap length c.buckets-bucket-items.ensures.buckets))) in
    IfOk-weaker c.of.result (λ (l : List Slot). l ≡ c.loop-bucket.slots.items) (λ (l : List Slot). length (undone_cells l) ≡ length c.args.grid.now.buckets) (λ l e. ap (λ (m : List Slot). length (undone_cells m)) (e ∙ whole) ∙ empty_left c.args.grid.now.buckets) c.of.ensures
