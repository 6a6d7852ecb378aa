use Rattle.std.proofs.Common.{◌-◌, ◌≤◌, length}
use Rattle.p21_reader.proofs.Headers.{Heads}
use Rattle.p21_reader.proofs.nested.pass_values.Given as goal

abbrev pub invariant-loop-want : goal.invariant-loop-want
invariant-loop-want l = record {
  within : l.end ≤ length l.bytes;
  read : Heads l.bytes l.fn.at l.end l.wants.items;
}

abbrev pub decreases-loop-want : goal.decreases-loop-want
decreases-loop-want l = length l.initial.bytes - l.end
