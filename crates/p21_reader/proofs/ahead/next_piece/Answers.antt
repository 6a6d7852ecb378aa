use Rattle.p21_values.proofs.Tokens.{no_token}
use Rattle.p21_reader.proofs.ahead.next_piece.Goals as goal

pub returns-in-Err-clause-none : goal.returns-in-Err-clause-none
returns-in-Err-clause-none c = no_token c.args.bytes.now c.args.at c.in-Err.field-0 c.in-Err.ensures.fault
