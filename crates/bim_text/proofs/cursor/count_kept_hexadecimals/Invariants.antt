use Rattle.std.proofs.Common.{◌≡◌, ◌+◌, ◌≤◌, length}
use Rattle.bim_text.specs.TextSpellings.{cleaned, is_hexadecimal}
use Rattle.p21_lexer.specs.Spelling.{run}
use Rattle.bim_text.proofs.cursor.count_kept_hexadecimals.Given as goal

abbrev pub invariant-loop-first : goal.invariant-loop-first
invariant-loop-first l = record {
  run : l.count + run is_hexadecimal (cleaned l.rest) ≡ run is_hexadecimal (cleaned l.spelled);
  room : l.count + length l.rest ≤ length l.spelled;
}

abbrev pub decreases-loop-first : goal.decreases-loop-first
decreases-loop-first l = length l.rest
