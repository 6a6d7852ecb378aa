use Rattle.std.proofs.Common.{◌+◌, IsSome, sym, ap, ◌∙◌, subst, arith}
use Rattle.bcf_viewpoints.specs.declared.view.ViewBody.{ViewBody}
use Rattle.bcf_viewpoints.specs.Viewpoints.{Views, IsViewBody, viewpoint}
use Rattle.book_topics.specs.Boards.{BoardState, next_serial, topic_at, view_added}
use Rattle.book_topics.proofs.Boards.{board, topic_made, view_added_is}
use Rattle.book_topics.proofs.Errors.{on_err}
use Rattle.book_topics.proofs.board.Board.post_view.Goals as goal

pub overflow_add-serial : goal.overflow_add-serial
overflow_add-serial c =
    let made = ap (λ (b : BoardState). b.made) c.self.view_is in
    let room = c.requires.room in
    omega (arith, made, room)

pub post-requires : goal.post-requires
post-requires c = subst (λ (body : ViewBody). IsViewBody body) (sym c.in_ok-bodies.ensures.first) c.get.ensures.good

pub invariant_of-self : goal.invariant_of-self
invariant_of-self c = rw c.in_err-post.ensures.err c.self.invariant

pub returns-in_err-post-clause-err : goal.returns-in_err-post-clause-err
returns-in_err-post-clause-err c =
    on_err c.from_residual-in_err-post.result (ap (λ (v : Views). board c.self.inside.topics v c.self.inside.made) c.in_err-post.ensures.err ∙ c.self.view_is)

pub invariant_of-self-2 : goal.invariant_of-self-2
invariant_of-self-2 c =
    let b = board c.self.inside.topics c.self.inside.views c.self.inside.made in
    let there = subst (λ (x : BoardState). IsSome (topic_at x c.args.topic)) (sym c.self.view_is) c.requires.there in
    let known = topic_made b c.args.topic c.self.invariant there in
    rw c.in_ok-post.ensures.ok (view_added_is b c.args.topic c.in_ok-bodies.bodies.0 known c.self.invariant)

pub of-requires : goal.of-requires
of-requires c = subst (λ (body : ViewBody). IsViewBody body) (sym c.in_ok-bodies.ensures.second) c.get.ensures.good

pub returns-clause-told : goal.returns-clause-told
returns-clause-told c =
    c.of.ensures ∙ ap (viewpoint (c.self.inside.made + 1)) (c.in_ok-bodies.ensures.second ∙ c.get.ensures.same)
    ∙ ap (λ (b : BoardState). viewpoint (next_serial b) c.args.body.now) c.self.view_is

pub returns-clause-ok : goal.returns-clause-ok
returns-clause-ok c =
    let b = board c.self.inside.topics c.self.inside.views c.self.inside.made in
    ap (λ (v : Views). board b.discussion v (b.made + 1)) c.in_ok-post.ensures.ok
    ∙ ap (view_added b c.args.topic) (c.in_ok-bodies.ensures.first ∙ c.get.ensures.same)
    ∙ ap (λ (x : BoardState). view_added x c.args.topic c.args.body.now) c.self.view_is
