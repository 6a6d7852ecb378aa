use Rattle.std.proofs.Common.{List, ◌<◌, length, get_or, sym, ap, subst, arith, ◌∙◌}
use Rattle.std.specs.List.{AllPairs}
use Rattle.bim_model.specs.declared.geometry.Extent.{Extent}
use Rattle.bim_model.specs.declared.named_model.NamedModel.{NamedModel}
use Rattle.bim_model.specs.Keys.{subjects_of, IsBelow}
use Rattle.bim_model.proofs.Rising.{subjects_rise}
use Rattle.bucket_grid.specs.declared.bucket_table.Bucket.{Bucket}
use Rattle.bucket_grid.specs.Subjects.{AreBoxes}
use Rattle.bucket_grid.specs.BucketTable.{IsTable}
use Rattle.bucket_grid.proofs.Zips.{zip_length}
use Rattle.clash_delta.specs.inner.ElementNumbers.{subjects, IsNumberBefore}
use Rattle.clash_delta.proofs.Before.{members_inside, same_members}
use Rattle.clash_delta.proofs.carrying.is_unmoved.Goals as goal

pub are_from-requires : goal.are_from-requires
are_from-requires c =
    let after = c.args.after.now in
    let second = subst (λ (l : List Extent). AreBoxes (subjects after) l) c.boxes-2.ensures.boxes c.boxes-2.ensures.boxed in
    let n = zip_length (IsNumberBefore (subjects c.args.before.now)) (subjects after) c.args.numbers.now c.requires.numbers in
    let low = members_inside after.boxes (subjects after) c.args.bucket.now.cell c.as_slice-2.result.now second (c.as_slice-2.ensures ∙ c.requires.members) in
    λ k d h. omega (arith, low k d h, n)

pub returns : goal.returns
returns c =
    let before = c.args.before.now in
    let after = c.args.after.now in
    let rising = subst (λ (ms : List NamedModel). AllPairs IsBelow (subjects_of ms)) c.models.ensures.same (subjects_rise c.models.result.now c.models.ensures.snapshot) in
    let first = subst (λ (l : List Extent). AreBoxes (subjects before) l) c.boxes.ensures.boxes c.boxes.ensures.boxed in
    let second = subst (λ (l : List Extent). AreBoxes (subjects after) l) c.boxes-2.ensures.boxes c.boxes-2.ensures.boxed in
    let table = subst (λ (l : List Bucket). IsTable before.boxes l) c.buckets-buckets.ensures.buckets c.buckets-buckets.ensures.table in
    let n = ap length c.buckets-buckets.ensures.buckets in
    let e = c.index-buckets-place.is ∙ ap (λ (l : List Bucket). get_or l c.args.place c.index-buckets-place.result) c.buckets-buckets.ensures.buckets in
    same_members before after c.args.numbers.now rising c.requires.numbers first second c.args.place c.args.bucket.now.cell c.index-buckets-place.result c.as_slice.result.now c.as_slice-2.result.now c.are_from.result
    (omega (arith, c.if-place-buckets.false, n)) e table (c.same_cell.ensures.0 c.if-not-same_cell.false) c.as_slice.ensures (c.as_slice-2.ensures ∙ c.requires.members) c.are_from.ensures
