use Rattle.std.proofs.Common.{◌≡◌, ◌+◌, length}
use Rattle.p21_table.proofs.value_list.Values.are_at_least.Given as goal

abbrev pub invariant-loop : goal.invariant-loop
invariant-loop l = l.counter + length l.left ≡ length l.self
