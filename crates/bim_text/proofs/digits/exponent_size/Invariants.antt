use Rattle.std.proofs.Common.{◌≡◌, ◌≤◌, drop}
use Rattle.std.specs.List.{list_all}
use Rattle.p21_lexer.specs.Spelling.{is_digit, value_after}
use Rattle.bim_text.specs.declared.limits.TheConstants.{MOST_EXPONENT}
use Rattle.bim_text.proofs.digits.exponent_size.Given as goal

abbrev pub invariant-loop-digit : goal.invariant-loop-digit
invariant-loop-digit l = record {
  small : l.value ≤ MOST_EXPONENT;
  digits : list_all is_digit l.digits ≡ list_all is_digit (drop l.digit-index l.digits);
  value : value_after 0 l.digits ≡ value_after l.value (drop l.digit-index l.digits);
}
