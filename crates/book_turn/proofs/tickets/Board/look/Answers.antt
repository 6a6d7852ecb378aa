use Rattle.std.proofs.Common.{rules}
use Rattle.book_turn.proofs.Keeps.{looks}
use Rattle.book_turn.proofs.tickets.Board.look.Goals as goal

pub load-requires : goal.load-requires
load-requires g c = let w = c.requires.waits in (search rules, search rules, looks _ _ _ _ _ _ _ _ _ w.0 w.1 w.2 w.3)
