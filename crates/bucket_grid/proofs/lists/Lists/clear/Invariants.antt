use Rattle.std.proofs.Common.{◌≡◌, ◌+◌, ◌*◌, ◌-◌, ◌<◌, ◌≤◌, ℕ, [], length, get_or, map}
use Rattle.bucket_grid.specs.inner.ListBlocks.{AreMarked}
use Rattle.bucket_grid.proofs.lists.Lists.clear.Given as goal

abbrev pub invariant-loop-place : goal.invariant-loop-place
invariant-loop-place l = record {
  count : length l.self-inside.lists.items ≡ length l.initial.self-inside.lists.items;
  marked : AreMarked (map (λ v. v.items) l.self-inside.lists.items) l.self-inside.marks.items;
  empty : (k : ℕ) → k < l.place → get_or (map (λ v. v.items) l.self-inside.lists.items) k [] ≡ [];
}

abbrev pub decreases-loop-place : goal.decreases-loop-place
decreases-loop-place l = length l.self-inside.lists.items + 16 - l.place

abbrev pub invariant-loop-block : goal.invariant-loop-block
invariant-loop-block l = record {
  count : length l.self-inside.lists.items ≡ length l.initial.self-inside.lists.items;
  enough : length l.self-inside.lists.items ≤ length l.self-inside.marks.items * 16;
  end : l.block-end ≡ length l.self-inside.marks.items;
  empty : (k : ℕ) → get_or (map (λ v. v.items) l.self-inside.lists.items) k [] ≡ [];
}
