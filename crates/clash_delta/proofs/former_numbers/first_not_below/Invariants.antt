use Rattle.std.proofs.Common.{◌≤◌, ◌-◌, length}
use Rattle.clash_delta.specs.inner.ElementNumbers.{subjects, subject_of, AllBelow}
use Rattle.clash_delta.proofs.former_numbers.first_not_below.Given as goal

abbrev pub invariant-loop-number : goal.invariant-loop-number
invariant-loop-number l = record {
  within : l.number ≤ length l.before.places;
  below : AllBelow (subjects l.before) l.number (subject_of l.after l.new);
}

abbrev pub decreases-loop-number : goal.decreases-loop-number
decreases-loop-number l = length l.before.places - l.number
