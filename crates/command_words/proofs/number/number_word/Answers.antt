use Rattle.std.proofs.Common.{◌∙◌, sym, ap, arith}
use Rattle.command_words.proofs.Numbers.{read_within, unwritten, word_read}
use Rattle.command_words.proofs.number.number_word.Goals as goal

pub returns-then-not-is_number-clause-value : goal.returns-then-not-is_number-clause-value
returns-then-not-is_number-clause-value c = unwritten c.args.least c.args.most c.args.text.now (sym c.if-not-is_number.ensures)

pub returns-in-Ok-clause-value : goal.returns-in-Ok-clause-value
returns-in-Ok-clause-value c =
    c.within.ensures.value ∙ sym (ap (read_within c.args.least c.args.most) c.in-Ok.is)
    ∙ word_read c.args.least c.args.most c.args.text.now c.parse.result (sym c.if-not-is_number.ensures) (omega arith) c.parse.ensures.value.0

pub returns-in-Err-clause-value : goal.returns-in-Err-clause-value
returns-in-Err-clause-value c =
    sym (ap (read_within c.args.least c.args.most) c.in-Err.is)
    ∙ word_read c.args.least c.args.most c.args.text.now c.parse.result (sym c.if-not-is_number.ensures) (omega arith) c.parse.ensures.value.0
