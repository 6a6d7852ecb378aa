use Rattle.std.proofs.Common.{◌≡◌, ◌-◌, ◌≤◌, length, drop}
use Rattle.p21_lexer.proofs.Gapping.{Gap}
use Rattle.p21_lexer.specs.Spelling.{run}
use Rattle.p21_lexer.specs.TokenSeparators.{is_blank}
use Rattle.p21_lexer.proofs.gaps.skip_any.Given as goal

abbrev pub invariant-loop-from : goal.invariant-loop-from
invariant-loop-from l = record {
  within : l.at ≤ length l.bytes;
  on : l.fn.from ≤ l.at;
  gap : Gap (drop l.fn.from l.bytes) (drop l.at l.bytes);
  none : run is_blank (drop l.at l.bytes) ≡ 0;
}

abbrev pub decreases-loop-from : goal.decreases-loop-from
decreases-loop-from l = length l.initial.bytes - l.at
