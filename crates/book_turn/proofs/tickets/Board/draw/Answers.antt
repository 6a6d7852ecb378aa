use Rattle.std.proofs.Common.{rules}
use Rattle.book_turn.proofs.Keeps.{draws}
use Rattle.book_turn.proofs.tickets.Board.draw.Goals as goal

pub fetch_add-requires : goal.fetch_add-requires
fetch_add-requires g c = (search rules, search rules, draws _ _ _ _ _ _ _ _ _ c.requires.free.0 c.requires.free.1 c.requires.few)
