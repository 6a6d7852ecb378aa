use Rattle.std.proofs.Common.{◌≡◌, Some, All, vec_len}
use Rattle.lane_tests.proofs.lanes_tests.clocks.Given as goal

abbrev pub invariant-loop-number : goal.invariant-loop-number
invariant-loop-number l = record {
  count : vec_len l.clocks ≡ l._number;
  one : All (λ c. Some c ≡ Some 1714564800) l.clocks.items;
}
