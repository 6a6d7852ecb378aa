use Rattle.std.proofs.Common.{◌≡◌, ℕ, ◌<◌, ◌≤◌, length, get_or, take}
use Rattle.std.specs.List.{AllZip}
use Rattle.std.specs.declared.cmp.Ordering.TheVariants.{Less}
use Rattle.bucket_grid.specs.declared.bucket_table.Bucket.{Bucket}
use Rattle.bucket_grid.specs.Cells.{cell_cmp}
use Rattle.clash_delta.proofs.Buckets.{IsFor}
use Rattle.clash_delta.proofs.carrying.carry.Given as goal

abbrev pub invariant-loop-bucket : goal.invariant-loop-bucket
invariant-loop-bucket l = record {
  slots : AllZip (IsFor l.done l.before l.after l.version) (take l.bucket-index l.after.buckets) l.slots.items;
  within : l.place ≤ length l.before.buckets;
  below :
      (j k : ℕ) (d e : Bucket) → l.bucket-index ≤ j → j < length l.after.buckets → k < l.place
      → cell_cmp (get_or l.before.buckets k d).cell (get_or l.after.buckets j e).cell ≡ Less;
}
