use Rattle.std.proofs.Common.{◌≡◌, length}
use Rattle.bucket_grid.proofs.lists.Lists.of.Given as goal

abbrev pub invariant-loop : goal.invariant-loop
invariant-loop l = length l.lists.items ≡ l.counter
