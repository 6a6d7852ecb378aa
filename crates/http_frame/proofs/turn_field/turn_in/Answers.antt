use Rattle.std.proofs.Common.{sym, ◌∙◌}
use Rattle.http_frame.proofs.TurnFields.{turn_parts, bad_turn, given_turn, turn_is_read}
use Rattle.http_frame.proofs.turn_field.turn_in.Goals as goal

pub returns-then-not-is_turn : goal.returns-then-not-is_turn
returns-then-not-is_turn c = bad_turn c.args.value.now (sym c.if-not-is_turn.ensures)

pub number_up_to-requires-clause-digits : goal.number_up_to-requires-clause-digits
number_up_to-requires-clause-digits c = (turn_parts c.args.value.now (sym c.if-not-is_turn.ensures)).0

pub returns-in-Some : goal.returns-in-Some
returns-in-Some c = given_turn c.args.value.now c.in-Some.turn (sym c.if-not-is_turn.ensures) (sym c.in-Some.is ∙ c.number_up_to.ensures)

pub returns-in-None : goal.returns-in-None
returns-in-None c = absurd (turn_is_read c.args.value.now (sym c.if-not-is_turn.ensures) (sym c.in-None.is ∙ c.number_up_to.ensures))
