use Rattle.book_topics.proofs.Boards.{blank_is}
use Rattle.book_topics.proofs.board.Board.new.Goals as goal

pub invariant_of-result : goal.invariant_of-result
invariant_of-result c = rw (c.new.ensures, c.new-2.ensures) blank_is
