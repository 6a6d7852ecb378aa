use Rattle.std.proofs.Common.{◌≡◌, List, get_or, is_none, sym, ap, subst, ◌∙◌}
use Rattle.bucket_grid.specs.declared.bucket_table.Bucket.{Bucket}
use Rattle.bucket_grid.specs.Grids.{GridValue}
use Rattle.bucket_grid.specs.BucketTable.{IsTable}
use Rattle.bucket_check.specs.declared.bucket_work.BucketWork.{BucketWork}
use Rattle.bucket_check.specs.ClashSets.{SetValue, IsUnmoved, IsSetOf}
use Rattle.clash_delta.specs.declared.slot.Slot.{Slot}
use Rattle.clash_delta.specs.BucketPlaces.{Rise}
use Rattle.clash_delta.proofs.Buckets.{old_right, is_moved, isnt_carried}
use Rattle.clash_delta.proofs.carrying.moved_if_done.Goals as goal

pub moved-requires : goal.moved-requires
moved-requires c =
    let done = c.args.done.now in
    let before = c.args.before.now in
    let after = c.args.after.now in
    let s = c.index-slots-place.result in
    let x = c.in-Some.set in
    let table = subst (λ (l : List Bucket). IsTable before.boxes l) c.buckets.ensures.buckets c.buckets.ensures.table in
    let e = c.index-slots-place.is ∙ ap (λ (l : List Slot). get_or l c.args.place s) c.slots.ensures.same in
    let f = ap (λ (t : Slot). t.set) c.index-slots-place.is ∙ c.in-Some.is in
    let right = old_right done before after c.args.version c.requires.of c.args.cell c.args.place c.requires.at c.requires.unmoved table s x e f in
    subst (λ (v : SetValue). IsUnmoved v.work.grid after v.work.cell) (sym c.get.ensures)
    (subst (λ k. IsUnmoved x.work.grid after k) (sym right.cell_is) (subst (λ (g : GridValue). IsUnmoved g after c.args.cell) (sym right.grid_is) c.requires.unmoved))

pub returns-in_ok-moved-in-Some : goal.returns-in_ok-moved-in-Some
returns-in_ok-moved-in-Some c =
    let done = c.args.done.now in
    let before = c.args.before.now in
    let after = c.args.after.now in
    let s = c.index-slots-place.result in
    let x = c.in-Some.set in
    let y = c.in_ok-moved-in-Some.field-0 in
    let table = subst (λ (l : List Bucket). IsTable before.boxes l) c.buckets.ensures.buckets c.buckets.ensures.table in
    let e = c.index-slots-place.is ∙ ap (λ (l : List Slot). get_or l c.args.place s) c.slots.ensures.same in
    let f = ap (λ (t : Slot). t.set) c.index-slots-place.is ∙ c.in-Some.is in
    let work = c.in_ok-moved-in-Some.ensures.work ∙ ap (λ (v : SetValue). let w : BucketWork = record { project = v.work.project; version = c.args.version; cell = v.work.cell; grid = after } in w) c.get.ensures in
    let pairs = c.in_ok-moved-in-Some.ensures.pairs ∙ ap (λ (v : SetValue). v.pairs) c.get.ensures in
    let right = subst (λ (v : SetValue). IsSetOf after v.work.cell y) c.get.ensures c.in_ok-moved-in-Some.ensures.right in
    is_moved done before after c.args.version c.requires.of c.args.cell c.args.place c.requires.at c.requires.unmoved table s x y e f work pairs right

pub returns-in-None : goal.returns-in-None
returns-in-None c =
    let done = c.args.done.now in
    let before = c.args.before.now in
    let s = c.index-slots-place.result in
    let table = subst (λ (l : List Bucket). IsTable before.boxes l) c.buckets.ensures.buckets c.buckets.ensures.table in
    let rise = subst (λ (l : List Slot). Rise l) c.slots.ensures.same c.slots.ensures.rising in
    let e = c.index-slots-place.is ∙ ap (λ (l : List Slot). get_or l c.args.place s) c.slots.ensures.same in
    let none = ap (λ (t : Slot). is_none t.set) c.index-slots-place.is ∙ ap is_none c.in-None.is in
    isnt_carried done before c.args.after.now c.args.version c.requires.of c.args.cell c.args.place c.requires.at c.requires.unmoved table s rise e none
