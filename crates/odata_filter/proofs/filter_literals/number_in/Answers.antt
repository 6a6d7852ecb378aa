use Rattle.std.proofs.Common.{◌≡◌, true, sym, ap, ◌∙◌, subst}
use Rattle.std.specs.Str.Parse.{ParsesSigned, without_leading_sign}
use mir.Syntax.{w32}
use Rattle.odata_filter.specs.FilterLiterals.{is_digits}
use Rattle.odata_filter.proofs.NumberLiterals.{digits_are_text, number_not_read}
use Rattle.odata_filter.proofs.filter_literals.number_in.Goals as goal

pub returns-in-Err-parse : goal.returns-in-Err-parse
returns-in-Err-parse c =
    let digits : is_digits (without_leading_sign c.args.word.now) ≡ true =
    sym (c.if-not-is_digits.ensures ∙ ap is_digits c.without_sign.ensures) in
    number_not_read c.args.word.now c.parse.result _ digits
    (subst (λ w. ParsesSigned w32 10 w c.parse.result) c.in-Ok.ensures.cases.0 c.parse.ensures.value.0) c.in-Err-parse.is

pub returns-in-Err : goal.returns-in-Err
returns-in-Err c =
    let digits : is_digits (without_leading_sign c.args.word.now) ≡ true =
    sym (c.if-not-is_digits.ensures ∙ ap is_digits c.without_sign.ensures) in
    absurd (c.in-Err.ensures.cases.0 (digits_are_text c.args.word.now digits))
