use Rattle.std.proofs.Common.{◌≡◌}
use Rattle.p21_table.proofs.value_list.Values.to_vec.Given as goal

abbrev pub invariant-loop-value : goal.invariant-loop-value
invariant-loop-value l = l.made.items ≡ l.yielded
