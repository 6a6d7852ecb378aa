use Rattle.std.proofs.Common.{rules}
use Rattle.book_turn.proofs.Keeps.{splits}
use Rattle.book_turn.proofs.tickets.Board.cut.Goals as goal

pub split_seat-requires : goal.split_seat-requires
split_seat-requires g c = let f = c.requires.free in (search rules, search rules, splits _ _ _ _ _ _ _ _ f.0 f.1 f.2)
