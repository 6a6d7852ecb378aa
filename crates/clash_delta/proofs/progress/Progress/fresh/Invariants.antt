use Rattle.std.proofs.Common.{◌≡◌, map, take}
use Rattle.bucket_grid.specs.declared.bucket_table.Bucket.{Bucket}
use Rattle.clash_delta.proofs.Fresh.{empty}
use Rattle.clash_delta.proofs.progress.Progress.fresh.Given as goal

abbrev pub invariant-loop-bucket : goal.invariant-loop-bucket
invariant-loop-bucket l = l.slots.items ≡ map empty (take l.bucket-index l.grid.buckets)
