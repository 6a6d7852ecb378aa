use Rattle.std.proofs.Common.{◌-◌, ◌≤◌, length}
use Rattle.p21_reader.proofs.Bodies.{Round}
use Rattle.p21_reader.proofs.passing.pass_complex.Given as goal

abbrev pub invariant-loop-next : goal.invariant-loop-next
invariant-loop-next l = record {
  within : l.end ≤ length l.bytes;
  read : Round l.bytes l.initial.end l.end;
}

abbrev pub decreases-loop-next : goal.decreases-loop-next
decreases-loop-next l = length l.initial.bytes - l.end
