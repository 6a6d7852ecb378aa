use Rattle.std.proofs.Common.{◌≡◌, ℕ, ◌<◌, ◌≤◌, ◌-◌, length, get_or}
use Rattle.std.specs.declared.cmp.Ordering.TheVariants.{Less}
use Rattle.bucket_grid.specs.declared.bucket_table.Bucket.{Bucket}
use Rattle.bucket_grid.specs.Cells.{cell_cmp}
use Rattle.clash_delta.proofs.carrying.first_not_before.Given as goal

abbrev pub invariant-loop-place : goal.invariant-loop-place
invariant-loop-place l = record {
  within : l.place ≤ length l.buckets;
  below : (k : ℕ) (d : Bucket) → k < l.place → cell_cmp (get_or l.buckets k d).cell l.cell ≡ Less;
}

abbrev pub decreases-loop-place : goal.decreases-loop-place
decreases-loop-place l = length l.buckets - l.place
