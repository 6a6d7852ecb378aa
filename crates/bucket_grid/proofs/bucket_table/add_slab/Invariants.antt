use Rattle.std.proofs.Common.{◌≡◌, ◌++◌, ◌≤◌, ◌-◌, length}
use Rattle.bucket_grid.specs.BucketTable.{slab}
use Rattle.bucket_grid.proofs.bucket_table.add_slab.Given as goal

abbrev pub invariant-loop-place : goal.invariant-loop-place
invariant-loop-place l = record {
  within : l.place ≤ length l.fn.ys;
  so_far : l.buckets ≡ l.fn.buckets ++ slab l.axes.y l.axes.z l.low l.place (length l.fn.zs) l.numbers;
  count : length l.zs ≡ length l.fn.zs;
}

abbrev pub decreases-loop-place : goal.decreases-loop-place
decreases-loop-place l = length l.fn.ys - l.place
