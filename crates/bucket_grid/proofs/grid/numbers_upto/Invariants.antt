use Rattle.std.proofs.Common.{◌≡◌}
use Rattle.bucket_grid.specs.BucketTable.{upto}
use Rattle.bucket_grid.proofs.grid.numbers_upto.Given as goal

abbrev pub invariant-loop-number : goal.invariant-loop-number
invariant-loop-number l = l.numbers.items ≡ upto l.number
