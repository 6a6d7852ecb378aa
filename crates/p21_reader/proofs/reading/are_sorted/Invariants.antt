use Rattle.std.proofs.Common.{◌-◌, ◌≤◌, length}
use Rattle.std.specs.Ordering.{nat_cmp, is_lt}
use Rattle.std.specs.List.Sorted.{IsSortedWithin}
use Rattle.p21_values.specs.declared.instance_head.Head.{Head}
use Rattle.p21_reader.proofs.reading.are_sorted.Given as goal

abbrev pub invariant-loop-at : goal.invariant-loop-at
invariant-loop-at l = record {
  begun : 1 ≤ l.at;
  sorted : IsSortedWithin (λ (x y : Head). is_lt (nat_cmp x.id y.id)) l.heads 0 l.at;
}

abbrev pub decreases-loop-at : goal.decreases-loop-at
decreases-loop-at l = length l.heads - l.at
