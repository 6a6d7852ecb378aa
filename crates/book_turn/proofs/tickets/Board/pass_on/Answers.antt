use Rattle.std.proofs.Common.{rules}
use Rattle.book_turn.proofs.Keeps.{goes_on}
use Rattle.book_turn.proofs.tickets.Board.pass_on.Goals as goal

pub fetch_add-requires : goal.fetch_add-requires
fetch_add-requires g c = let w = c.requires.called in (search rules, search rules, goes_on _ _ _ _ _ _ _ _ _ w.0 w.1 w.2 w.3 w.4 w.5)
