use Rattle.std.proofs.Common.{take}
use Rattle.std.specs.List.{AllZip}
use Rattle.bucket_grid.specs.declared.bucket_table.Bucket.{Bucket}
use Rattle.bucket_check.specs.ClashSets.{SetValue, IsSetOf}
use Rattle.clash_check.proofs.version_check.sets_of.Given as goal

abbrev pub invariant-loop-bucket : goal.invariant-loop-bucket
invariant-loop-bucket g l = AllZip (λ (b : Bucket) (s : SetValue). IsSetOf l.grid b.cell s) (take l.bucket-index l.buckets) l.sets.items
