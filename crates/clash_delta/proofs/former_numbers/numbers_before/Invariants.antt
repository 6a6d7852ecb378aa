use Rattle.std.proofs.Common.{ℕ, ◌<◌, ◌≤◌, length, take}
use Rattle.std.specs.List.{AllZip}
use Rattle.clash_delta.specs.inner.ElementNumbers.{subjects, subject_of, AllBelow, IsNumberBefore}
use Rattle.clash_delta.proofs.former_numbers.numbers_before.Given as goal

abbrev pub invariant-loop-new : goal.invariant-loop-new
invariant-loop-new l = record {
  numbers : AllZip (IsNumberBefore (subjects l.before)) (take l.new (subjects l.after)) l.numbers.items;
  within : l.old ≤ length l.before.places;
  below : (k : ℕ) → l.new ≤ k → k < length (subjects l.after) → AllBelow (subjects l.before) l.old (subject_of l.after k);
}
