use Rattle.std.proofs.Common.{ap, ◌∙◌, sym}
use Rattle.p21_values.specs.Lexemes.{WordsOf}
use Rattle.p21_reader.proofs.Asking.{if_none, text_missing, first_missing, second_missing, text_found, text_says}
use Rattle.p21_reader.proofs.ahead.only_text.Goals as goal

pub returns-in_err-text-clause-none : goal.returns-in_err-text-clause-none
returns-in_err-text-clause-none c = if_none _ _ (text_missing c.args.bytes.now c.args.at c.in_ok-open.open c.in_ok-open.ensures.found c.in_err-text.ensures.none)

pub returns-in_err-close-clause-none : goal.returns-in_err-close-clause-none
returns-in_err-close-clause-none c =
    if_none _ _ (first_missing c.args.bytes.now c.args.at c.in_ok-open.open c.in_ok-text.text c.in_ok-open.ensures.found c.in_ok-text.ensures.found c.in_err-close.ensures.none)

pub returns-in_err-sign_end-clause-none : goal.returns-in_err-sign_end-clause-none
returns-in_err-sign_end-clause-none c =
    if_none _ _ (second_missing c.args.bytes.now c.args.at c.in_ok-open.open c.in_ok-close.close c.in_ok-text.text c.in_ok-open.ensures.found c.in_ok-text.ensures.found c.in_ok-close.ensures.found c.in_err-sign_end.ensures.none)

pub returns-clause-found : goal.returns-clause-found
returns-clause-found c =
    text_found c.args.bytes.now c.args.at c.in_ok-open.open c.in_ok-close.close c.in_ok-sign_end.field-0 c.in_ok-text.text c.inner.result.now c.in_ok-open.ensures.found c.in_ok-text.ensures.found (text_says c.args.bytes.now c.in_ok-text.text c.in_ok-text.ensures.text ∙ ap WordsOf (sym c.inner.ensures))
    c.in_ok-close.ensures.found c.in_ok-sign_end.ensures.found
