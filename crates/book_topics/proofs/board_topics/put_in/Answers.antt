use Rattle.std.proofs.Common.{refl}
use Rattle.book_topics.proofs.board_topics.put_in.Goals as goal

pub returns-clause-told : goal.returns-clause-told
returns-clause-told c = rw (c.in_ok-bodies.ensures.second, c.in_ok-authors.ensures.second, c.in_ok-created.ensures) refl
