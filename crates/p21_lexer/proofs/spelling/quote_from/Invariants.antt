use Rattle.std.proofs.Common.{◌≡◌, ◌+◌, ◌-◌, ◌≤◌, length, drop, option_map}
use Rattle.p21_lexer.specs.inner.TokenSpans.{text_span}
use Rattle.p21_lexer.proofs.spelling.quote_from.Given as goal

abbrev pub invariant-loop-at : goal.invariant-loop-at
invariant-loop-at l = (l.at ≤ length l.bytes) × (option_map (λ n. l.fn.from + n) (text_span (drop l.fn.from l.bytes)) ≡ option_map (λ n. l.at + n) (text_span (drop l.at l.bytes)))

abbrev pub decreases-loop-at : goal.decreases-loop-at
decreases-loop-at l = length l.initial.bytes - l.at
