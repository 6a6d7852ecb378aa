use Rattle.std.proofs.Common.{◌-◌, ◌≤◌, length}
use Rattle.p21_reader.specs.inner.Tabling.{PassesRows}
use Rattle.p21_reader.proofs.passing.pass_rows.Given as goal

abbrev pub invariant-loop-behind : goal.invariant-loop-behind
invariant-loop-behind l = record {
  within : l.end ≤ length l.bytes;
  on : l.fn.at ≤ l.end;
  rows : PassesRows l.bytes l.fn.at l.fn.count l.count l.end;
}

abbrev pub decreases-loop-behind : goal.decreases-loop-behind
decreases-loop-behind l = length l.initial.bytes - l.end
