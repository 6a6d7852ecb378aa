use Rattle.std.proofs.Common.{length, ap, arith}
use Rattle.book_topics.specs.Boards.{BoardState}
use Rattle.book_topics.proofs.board.Board.topic_count.Goals as goal

pub returns-clause-few : goal.returns-clause-few
returns-clause-few c =
    let few = c.self.invariant.few_topics in
    let made = ap (λ (b : BoardState). b.made) c.self.view_is in
    let same = ap length c.topics.ensures.same in
    omega (arith, few, made, same)
