use Rattle.std.proofs.Common.{◌≡◌, ◌+◌, ◌-◌, ◌≤◌, length, drop}
use Rattle.bim_text.specs.TextSpellings.{is_plain}
use Rattle.p21_lexer.specs.Spelling.{run}
use Rattle.bim_text.proofs.spelled_text.plain_end.Given as goal

abbrev pub invariant-loop-at : goal.invariant-loop-at
invariant-loop-at l = record {
  within : l.at ≤ length l.bytes;
  run : l.fn.from + run is_plain (drop l.fn.from l.bytes) ≡ l.at + run is_plain (drop l.at l.bytes);
}

abbrev pub decreases-loop-at : goal.decreases-loop-at
decreases-loop-at l = length l.initial.bytes - l.at
