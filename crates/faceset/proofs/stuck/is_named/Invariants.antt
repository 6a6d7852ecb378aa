use Rattle.std.proofs.Common.{Contains, filter_map}
use Rattle.p21_values.specs.Values.{reference_of}
use Rattle.faceset.proofs.stuck.is_named.Given as goal

abbrev pub invariant-loop-value : goal.invariant-loop-value
invariant-loop-value l = Contains (filter_map reference_of l.yielded) l.id → ⊥
