use Rattle.std.proofs.Common.{◌≡◌, ◌+◌, ◌-◌, ◌≤◌, ◌⊎◌, length, drop}
use Rattle.bim_text.specs.TextSpellings.{is_hexadecimal}
use Rattle.p21_lexer.specs.Spelling.{run}
use Rattle.bim_text.proofs.byte_classes.count_hexadecimals.Given as goal

abbrev pub invariant-loop-at : goal.invariant-loop-at
invariant-loop-at l = record {
  on : l.fn.from ≤ l.at;
  within : l.at ≡ l.fn.from ⊎ l.at ≤ length l.bytes;
  run : l.fn.from + run is_hexadecimal (drop l.fn.from l.bytes) ≡ l.at + run is_hexadecimal (drop l.at l.bytes);
}

abbrev pub decreases-loop-at : goal.decreases-loop-at
decreases-loop-at l = length l.initial.bytes - l.at
