use Rattle.std.proofs.Common.{ap, arith}
use Rattle.book_topics.specs.Boards.{BoardState}
use Rattle.book_topics.proofs.board.Board.comment_count.Goals as goal

pub returns-clause-few : goal.returns-clause-few
returns-clause-few c =
    let few = c.self.invariant.few_comments in
    let made = ap (λ (b : BoardState). b.made) c.self.view_is in
    omega (arith, few, made)
