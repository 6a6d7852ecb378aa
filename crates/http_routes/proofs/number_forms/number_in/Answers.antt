use Rattle.std.proofs.Common.{sym}
use Rattle.http_routes.proofs.Numerals.{unwritten, word_read, word_is_read}
use Rattle.http_routes.proofs.number_forms.number_in.Goals as goal

pub returns-then-not-is_number : goal.returns-then-not-is_number
returns-then-not-is_number c = unwritten c.args.text.now (sym c.if-not-is_number.ensures)

pub returns-in-Ok : goal.returns-in-Ok
returns-in-Ok c = word_read c.args.text.now c.parse.result (sym c.if-not-is_number.ensures) c.parse.ensures.value.0 c.in-Ok.number c.in-Ok.is

pub returns-in-Err : goal.returns-in-Err
returns-in-Err c = absurd (word_is_read c.args.text.now c.parse.result (sym c.if-not-is_number.ensures) c.parse.ensures.value.0 _ c.in-Err.is)
