use Rattle.std.proofs.Common.{◌-◌, ◌≤◌, List, length}
use Rattle.p21_values.specs.declared.value.Value21.{Value21}
use Rattle.p21_reader.proofs.Inwards.{Inwards}
use Rattle.p21_reader.proofs.passing.pass_inside.Given as goal

abbrev pub invariant-loop-next : goal.invariant-loop-next
invariant-loop-next l = record {
  within : l.end ≤ length l.bytes;
  on : l.fn.at ≤ l.end;
  read : (vs : List Value21) × Inwards l.fn.depth l.bytes l.fn.at l.end vs;
}

abbrev pub decreases-loop-next : goal.decreases-loop-next
decreases-loop-next l = length l.initial.bytes - l.end
