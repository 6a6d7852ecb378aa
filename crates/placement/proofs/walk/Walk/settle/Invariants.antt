use Rattle.std.proofs.Common.{◌≡◌, ℕ, ◌+◌, ◌-◌, ◌≤◌, ◌⊎◌, List, length, Contains}
use Rattle.p21_values.specs.declared.value.Instance.{Instance}
use Rattle.placement.specs.inner.Walks.{IsFrom, Rest, Settling}
use Rattle.placement.proofs.walk.Walk.settle.Given as goal

abbrev pub invariant-loop-k : goal.invariant-loop-k
invariant-loop-k l = record {
  within : l.start ≤ l.k;
  most : l.k ≤ length l.initial.self.met.items;
  ranks : l.self.ranks.items ≡ l.initial.self.ranks.items;
  met : l.self.met.items ≡ l.initial.self.met.items;
  count : length l.self.order.items + l.k ≡ length l.initial.self.order.items + length l.initial.self.met.items;
  grows : (id : ℕ) → Contains l.initial.self.order.items id → Contains l.self.order.items id;
  sound : (id : ℕ) → Contains l.self.order.items id → Contains l.initial.self.order.items id ⊎ IsFrom l.initial.self.met.items l.k id;
  settling : (world : List Instance) → Rest world l.initial.self.met.items l.start → Settling world l.initial.self.order.items l.initial.self.met.items l.start (length l.initial.self.met.items)
      → Settling world l.self.order.items l.initial.self.met.items l.start l.k;
}

abbrev pub decreases-loop-k : goal.decreases-loop-k
decreases-loop-k l = l.k - l.start
