use Rattle.std.proofs.Common.{◌≡◌, ◌≤◌, ◌-◌, length}
use Rattle.bucket_grid.specs.BucketTable.{table}
use Rattle.bucket_grid.proofs.bucket_table.table_of.Given as goal

abbrev pub invariant-loop-place : goal.invariant-loop-place
invariant-loop-place l = record {
  within : l.place ≤ l.fn.counts.0;
  so_far : l.buckets ≡ table l.axes.x l.axes.y l.axes.z l.low l.place l.fn.counts.1 l.fn.counts.2 l.numbers;
  count_y : length l.ys ≡ l.fn.counts.1;
  count_z : length l.zs ≡ l.fn.counts.2;
}

abbrev pub decreases-loop-place : goal.decreases-loop-place
decreases-loop-place l = l.fn.counts.0 - l.place
