use Rattle.std.proofs.Common.{◌≡◌, take, map}
use Rattle.book_topics.proofs.board_comments.copies.Given as goal

abbrev pub invariant-loop-comment : goal.invariant-loop-comment
invariant-loop-comment l = l.made ≡ map (λ c. c.now) (take l.comment-index l.comments)
