use Rattle.std.proofs.Common.{◌+◌, sym, ap, ap₂, ◌∙◌, subst, arith}
use Rattle.bcf_topics.specs.Discussions.{Discussion}
use Rattle.bcf_viewpoints.specs.declared.view.ViewBody.{ViewBody}
use Rattle.bcf_viewpoints.specs.Viewpoints.{Views, IsViewBody, views_off}
use Rattle.book_topics.specs.Boards.{BoardState, topic_added, view_added}
use Rattle.book_topics.specs.OfClashes.{clash_body, clash_topic, clash_added}
use Rattle.book_topics.proofs.Boards.{board, below_next, clash_view_good, clash_added_is, taken_back}
use Rattle.book_topics.proofs.Errors.{on_err}
use Rattle.book_topics.proofs.board.Board.post_clash.Goals as goal

pub overflow_add-serial : goal.overflow_add-serial
overflow_add-serial c =
    let made = ap (λ (b : BoardState). b.made) c.self.view_is in
    let room = c.requires.room in
    omega (arith, made, room)

pub overflow_add-next : goal.overflow_add-next
overflow_add-next c =
    let made = ap (λ (b : BoardState). b.made) c.self.view_is in
    let room = c.requires.room in
    omega (arith, made, room)

pub post-requires : goal.post-requires
post-requires c =
    subst (λ (body : ViewBody). IsViewBody body) (sym c.in_ok-view.ensures)
    (clash_view_good c.args.a.now c.args.b.now c.requires.first c.requires.second)

pub invariant_of-self : goal.invariant_of-self
invariant_of-self c = rw c.in_err-post.ensures.err c.self.invariant

pub returns-in_err-post-clause-err : goal.returns-in_err-post-clause-err
returns-in_err-post-clause-err c =
    on_err c.from_residual-in_err-post.result (ap (λ (v : Views). board c.self.inside.topics v c.self.inside.made) c.in_err-post.ensures.err ∙ c.self.view_is)

pub add_clash-requires : goal.add_clash-requires
add_clash-requires c = record {
  first = c.requires.first;
  second = c.requires.second;
  last = below_next c.self.inside.made c.self.inside.topics.topics c.self.invariant.topics;
}

pub invariant_of-self-in-Ok : goal.invariant_of-self-in-Ok
invariant_of-self-in-Ok c =
    let b = board c.self.inside.topics c.self.inside.views c.self.inside.made in
    rw (c.in-Ok.ensures.ok, c.in_ok-post.ensures.ok, c.in_ok-view.ensures)
    (clash_added_is b c.args.a.now c.args.b.now c.args.author.now c.self.invariant)

pub returns-in-Ok-clause-told : goal.returns-in-Ok-clause-told
returns-in-Ok-clause-told c =
    c.in-Ok.ensures.told ∙ ap (λ (b : BoardState). clash_topic b c.args.a.now c.args.b.now c.args.author.now) c.self.view_is

pub returns-in-Ok-clause-ok : goal.returns-in-Ok-clause-ok
returns-in-Ok-clause-ok c =
    let b = board c.self.inside.topics c.self.inside.views c.self.inside.made in
    let n = b.made + 1 in
    ap₂ (λ (d : Discussion) (v : Views). board d v (n + 1)) c.in-Ok.ensures.ok c.in_ok-post.ensures.ok
    ∙ ap (view_added (topic_added b (clash_body c.args.a.now c.args.b.now) c.args.author.now) n) c.in_ok-view.ensures
    ∙ ap (λ (x : BoardState). clash_added x c.args.a.now c.args.b.now c.args.author.now) c.self.view_is

pub invariant_of-self-in-Err : goal.invariant_of-self-in-Err
invariant_of-self-in-Err c =
    let n = c.self.inside.made in
    let back = c.drop_topic.ensures ∙ ap (views_off (n + 1)) c.in_ok-post.ensures.ok
    ∙ taken_back n (n + 1 + 1) c.in_ok-view.view c.self.inside.views c.self.invariant.views in
    rw (c.in-Err.ensures.err, back) c.self.invariant

pub returns-in-Err-clause-err : goal.returns-in-Err-clause-err
returns-in-Err-clause-err c =
    let n = c.self.inside.made in
    let back = c.drop_topic.ensures ∙ ap (views_off (n + 1)) c.in_ok-post.ensures.ok
    ∙ taken_back n (n + 1 + 1) c.in_ok-view.view c.self.inside.views c.self.invariant.views in
    ap₂ (λ (d : Discussion) (v : Views). board d v n) c.in-Err.ensures.err back ∙ c.self.view_is
