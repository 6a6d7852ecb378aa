use Rattle.std.proofs.Common.{IsSome, sym, ap, ◌∙◌, subst}
use Rattle.bcf_topics.specs.Discussions.{Discussion}
use Rattle.book_topics.specs.Boards.{BoardState, topic_at, comment_at, comment_removed}
use Rattle.book_topics.proofs.Boards.{board, comment_removed_is, comment_unrefused, no_error}
use Rattle.book_topics.proofs.board.Board.delete_comment.Goals as goal

pub unreachable-requires : goal.unreachable-requires
unreachable-requires c =
    let topic = subst (λ (b : BoardState). IsSome (topic_at b c.args.topic)) (sym c.self.view_is) c.requires.topic in
    let there = subst (λ (b : BoardState). IsSome (comment_at b c.args.topic c.args.serial)) (sym c.self.view_is) c.requires.there in
    no_error _ _ _ c.delete_comment.ensures.answer (comment_unrefused c.args.topic c.args.serial c.self.inside.topics topic there) c.in_default.is

pub invariant_of-self : goal.invariant_of-self
invariant_of-self c =
    let b = board c.self.inside.topics c.self.inside.views c.self.inside.made in
    rw c.in-Ok.ensures.after (comment_removed_is b c.args.topic c.args.serial c.self.invariant)

pub returns : goal.returns
returns c =
    ap (λ (d : Discussion). board d c.self.inside.views c.self.inside.made) c.in-Ok.ensures.after
    ∙ ap (λ (b : BoardState). comment_removed b c.args.topic c.args.serial) c.self.view_is
