use Rattle.std.proofs.Common.{◌≡◌, filter_map}
use Rattle.p21_values.specs.Values.{reference_of}
use Rattle.faceset.proofs.numbers.numbers_of.Given as goal

abbrev pub invariant-loop-value : goal.invariant-loop-value
invariant-loop-value l = l.ids.items ≡ filter_map reference_of l.yielded
