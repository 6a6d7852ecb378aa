use Rattle.std.proofs.Common.{◌+◌, IsSome, sym, ap, ◌∙◌, subst, arith}
use Rattle.bcf_topics.specs.Comments.{new_comment}
use Rattle.bcf_topics.specs.Discussions.{Discussion}
use Rattle.book_topics.specs.Boards.{BoardState, next_serial, topic_at, comment_added}
use Rattle.book_topics.proofs.Boards.{board, comment_added_is}
use Rattle.book_topics.proofs.Errors.{on_err}
use Rattle.book_topics.proofs.board.Board.post_comment.Goals as goal

pub overflow_add-serial : goal.overflow_add-serial
overflow_add-serial c =
    let made = ap (λ (b : BoardState). b.made) c.self.view_is in
    let room = c.requires.room in
    omega (arith, made, room)

pub add_comment-requires : goal.add_comment-requires
add_comment-requires c = subst (λ (b : BoardState). IsSome (topic_at b c.args.topic)) (sym c.self.view_is) c.requires.there

pub invariant_of-self : goal.invariant_of-self
invariant_of-self c = rw c.in_err-told.ensures.err c.self.invariant

pub returns-in_err-told-clause-err : goal.returns-in_err-told-clause-err
returns-in_err-told-clause-err c =
    on_err c.from_residual.result (ap (λ (d : Discussion). board d c.self.inside.views c.self.inside.made) c.in_err-told.ensures.err ∙ c.self.view_is)

pub invariant_of-self-2 : goal.invariant_of-self-2
invariant_of-self-2 c =
    let b = board c.self.inside.topics c.self.inside.views c.self.inside.made in
    rw c.in_ok-told.ensures.ok (comment_added_is b c.args.topic c.args.body.now c.args.author.now c.self.invariant)

pub returns-clause-told : goal.returns-clause-told
returns-clause-told c =
    c.in_ok-told.ensures.told ∙ ap (λ (b : BoardState). new_comment c.args.topic (next_serial b) c.args.body.now c.args.author.now) c.self.view_is

pub returns-clause-ok : goal.returns-clause-ok
returns-clause-ok c =
    ap (λ (d : Discussion). board d c.self.inside.views (c.self.inside.made + 1)) c.in_ok-told.ensures.ok
    ∙ ap (λ (x : BoardState). comment_added x c.args.topic c.args.body.now c.args.author.now) c.self.view_is
