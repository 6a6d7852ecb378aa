use Rattle.std.proofs.Common.{◌≡◌, ◌+◌, ◌-◌, ◌≤◌, length, drop, option_map}
use Rattle.std.specs.Prelude.{IfSome}
use Rattle.p21_lexer.specs.inner.TokenSpans.{text_span, later}
use Rattle.p21_lexer.proofs.spelling.long_text_end.Given as goal

abbrev pub invariant-loop-at : goal.invariant-loop-at
invariant-loop-at l = (l.at ≤ length l.bytes) × (IfSome l.found (λ e. e ≤ length l.bytes)) × (option_map (λ n. l.fn.from + n) (text_span (drop l.fn.from l.bytes)) ≡ later (option_map (λ n. l.at + n) (text_span (drop l.at l.bytes))) l.found)

abbrev pub decreases-loop-at : goal.decreases-loop-at
decreases-loop-at l = length l.initial.bytes - l.at
