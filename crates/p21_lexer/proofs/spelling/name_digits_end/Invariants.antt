use Rattle.std.proofs.Common.{◌≡◌, ◌+◌, ◌-◌, ◌≤◌, length, drop}
use Rattle.p21_lexer.specs.inner.TokenSpans.{name_run}
use Rattle.p21_lexer.specs.declared.limits.TheConstants.{GREATEST_NAME}
use Rattle.p21_lexer.proofs.spelling.name_digits_end.Given as goal

abbrev pub invariant-loop-at : goal.invariant-loop-at
invariant-loop-at l = (l.at ≤ length l.bytes) × (l.value ≤ GREATEST_NAME) × (l.fn.from + name_run 0 (drop l.fn.from l.bytes) ≡ l.at + name_run l.value (drop l.at l.bytes))

abbrev pub decreases-loop-at : goal.decreases-loop-at
decreases-loop-at l = length l.initial.bytes - l.at
