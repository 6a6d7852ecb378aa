use Rattle.std.proofs.Common.{◌≡◌, drop}
use Rattle.p21_lexer.specs.Spelling.{value_after}
use Rattle.p21_table.proofs.simple.number_of.Given as goal

abbrev pub invariant-loop-digit : goal.invariant-loop-digit
invariant-loop-digit l = value_after l.value (drop l.digit-index l.digits) ≡ value_after 0 l.digits
