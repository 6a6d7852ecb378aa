use Rattle.p21_reader.proofs.Asking.{not_text}
use Rattle.p21_reader.proofs.ahead.text_token.Goals as goal

pub returns-in_default : goal.returns-in_default
returns-in_default c = record { found = tt; text = tt; piece = tt; none = not_text c.args.bytes.now c.args.at c.in-Some.piece.token c.in-Some.ensures.cuts c.in_default.not-Words }
