use Rattle.std.proofs.Common.{◌≡◌, ◌+◌, ◌-◌, ◌<◌, ◌≤◌, ℕ, [], length, get_or}
use Rattle.bucket_grid.proofs.lists.Lists.next.Given as goal

abbrev pub invariant-loop-place : goal.invariant-loop-place
invariant-loop-place l = record {
  on : l.from ≤ l.place;
  empty : (k : ℕ) → l.from ≤ k → k < l.place → get_or l.self k [] ≡ [];
}

abbrev pub decreases-loop-place : goal.decreases-loop-place
decreases-loop-place l = length l.self + 16 - l.place
