use Rattle.std.proofs.Common.{IsSome, sym, ap, ◌∙◌, subst}
use Rattle.bcf_viewpoints.specs.Viewpoints.{Views}
use Rattle.book_topics.specs.Boards.{BoardState, view_at, view_removed}
use Rattle.book_topics.proofs.Boards.{board, view_removed_is, view_unrefused}
use Rattle.book_topics.proofs.board.Board.delete_view.Goals as goal

pub unreachable-requires : goal.unreachable-requires
unreachable-requires c =
    let there = subst (λ (b : BoardState). IsSome (view_at b c.args.topic c.args.serial)) (sym c.self.view_is) c.requires in
    view_unrefused _ _ _ c.delete.ensures.answer there c.in_default.is

pub invariant_of-self : goal.invariant_of-self
invariant_of-self c =
    let b = board c.self.inside.topics c.self.inside.views c.self.inside.made in
    rw c.in-Ok.ensures.after (view_removed_is b c.args.topic c.args.serial c.self.invariant)

pub returns : goal.returns
returns c =
    ap (λ (v : Views). board c.self.inside.topics v c.self.inside.made) c.in-Ok.ensures.after
    ∙ ap (λ (b : BoardState). view_removed b c.args.topic c.args.serial) c.self.view_is
