use Rattle.std.proofs.Common.{ℕ, ◌<◌, get_or, Contains}
use Rattle.placement.specs.inner.Walks.{Settled, AllReached}
use Rattle.placement.proofs.chains.Chains.of.Given as goal

abbrev pub invariant-loop-id : goal.invariant-loop-id
invariant-loop-id l = record {
  settled : Settled l.exchange l.walk;
  visited : (k : ℕ) → k < l.id-index → Contains l.walk.order.items (get_or l.id-items k 0);
  reached : AllReached l.exchange l.named l.walk.order.items;
}
