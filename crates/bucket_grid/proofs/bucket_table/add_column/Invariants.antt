use Rattle.std.proofs.Common.{◌≡◌, ◌++◌, ◌≤◌, ◌-◌, length}
use Rattle.bucket_grid.specs.BucketTable.{column}
use Rattle.bucket_grid.proofs.bucket_table.add_column.Given as goal

abbrev pub invariant-loop-place : goal.invariant-loop-place
invariant-loop-place l = record {
  within : l.place ≤ length l.fn.lists;
  so_far : l.buckets ≡ l.fn.buckets ++ column l.spans l.low l.place l.numbers;
}

abbrev pub decreases-loop-place : goal.decreases-loop-place
decreases-loop-place l = length l.fn.lists - l.place
