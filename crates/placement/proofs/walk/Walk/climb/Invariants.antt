use Rattle.std.proofs.Common.{◌≡◌, ℕ, ◌<◌, length, slice_index, sum_by}
use Rattle.placement.specs.inner.Walks.{is_new, Ranked, Climbs}
use Rattle.placement.proofs.walk.Walk.climb.Given as goal

abbrev pub invariant-up : goal.invariant-up
invariant-up l = record {
  ranked : Ranked l.exchange l.self.ranks.items l.self.met.items;
  climbs : Climbs l.exchange l.self.met.items l.start l.current l.id;
  start : l.start ≡ length l.initial.self.met.items;
  kept : (k : ℕ) → k < length l.initial.self.met.items → slice_index l.self.met.items k ≡ slice_index l.initial.self.met.items k;
  order : l.self.order.items ≡ l.initial.self.order.items;
}

abbrev pub decreases-up : goal.decreases-up
decreases-up l = sum_by is_new l.self.ranks.items
