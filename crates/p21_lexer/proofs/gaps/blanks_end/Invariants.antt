use Rattle.std.proofs.Common.{◌≡◌, ◌+◌, ◌-◌, ◌≤◌, length, drop}
use Rattle.p21_lexer.specs.Spelling.{run}
use Rattle.p21_lexer.specs.TokenSeparators.{is_blank}
use Rattle.p21_lexer.proofs.gaps.blanks_end.Given as goal

abbrev pub invariant-loop-at : goal.invariant-loop-at
invariant-loop-at l = (l.at ≤ length l.bytes) × (l.fn.from + run is_blank (drop l.fn.from l.bytes) ≡ l.at + run is_blank (drop l.at l.bytes))

abbrev pub decreases-loop-at : goal.decreases-loop-at
decreases-loop-at l = length l.initial.bytes - l.at
