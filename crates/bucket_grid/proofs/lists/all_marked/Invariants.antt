use Rattle.std.proofs.Common.{◌≡◌, ℕ, true, length, get_or}
use Rattle.bucket_grid.proofs.lists.all_marked.Given as goal

abbrev pub invariant-loop : goal.invariant-loop
invariant-loop l = record {
  count : length l.marks.items ≡ l.counter;
  marked : (b : ℕ) → get_or l.marks.items b true ≡ true;
}
