use Rattle.std.proofs.Common.{IsSome, sym, ap, ap₂, ◌∙◌, subst}
use Rattle.bcf_topics.specs.Discussions.{Discussion}
use Rattle.bcf_viewpoints.specs.Viewpoints.{Views}
use Rattle.book_topics.specs.Boards.{BoardState, topic_at, topic_removed}
use Rattle.book_topics.proofs.Boards.{board, topic_removed_is, topic_unrefused, no_error}
use Rattle.book_topics.proofs.board.Board.delete_topic.Goals as goal

pub unreachable-requires : goal.unreachable-requires
unreachable-requires c =
    let there = subst (λ (b : BoardState). IsSome (topic_at b c.args.serial)) (sym c.self.view_is) c.requires in
    no_error _ _ _ c.delete_topic.ensures.answer (topic_unrefused c.args.serial c.self.inside.topics there) c.in_default.is

pub invariant_of-self : goal.invariant_of-self
invariant_of-self c =
    let b = board c.self.inside.topics c.self.inside.views c.self.inside.made in
    rw (c.in-Ok.ensures.after, c.drop_topic.ensures) (topic_removed_is b c.args.serial c.self.invariant)

pub returns : goal.returns
returns c =
    let n = c.self.inside.made in
    ap₂ (λ (d : Discussion) (v : Views). board d v n) c.in-Ok.ensures.after c.drop_topic.ensures
    ∙ ap (λ (b : BoardState). topic_removed b c.args.serial) c.self.view_is
