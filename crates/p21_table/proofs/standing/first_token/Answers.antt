use Rattle.p21_table.proofs.FirstTokens.{begun, never_stands}
use Rattle.p21_table.proofs.standing.first_token.Goals as goal

pub returns-in-Ok-clause-begins : goal.returns-in-Ok-clause-begins
returns-in-Ok-clause-begins c = λ v s. (begun c.args.bytes.now c.args.at c.in-Ok.piece.token v c.in-Ok.ensures.cuts s).0

pub returns-in-Err-clause-begins : goal.returns-in-Err-clause-begins
returns-in-Err-clause-begins c = λ v s. never_stands c.args.bytes.now c.args.at c.in-Err.field-0 v c.in-Err.ensures.fault s
