use Rattle.std.proofs.Common.{Some, sym, ap, ◌∙◌, subst}
use Rattle.std.specs.Option.{option_map}
use Rattle.bcf_viewpoints.specs.declared.view.ViewBody.{ViewBody}
use Rattle.bcf_viewpoints.specs.declared.view.ViewIs.{ViewIs}
use Rattle.bcf_viewpoints.specs.Viewpoints.{IsViewBody, viewpoint}
use Rattle.book_topics.specs.Boards.{BoardState, view_at}
use Rattle.book_topics.proofs.board.Board.view.Goals as goal

pub of-requires : goal.of-requires
of-requires c = subst (λ (body : ViewBody). IsViewBody body) (sym c.in_ok-body.ensures) c.in-Some.ensures.good

pub returns : goal.returns
returns c =
    let made = c.of.ensures ∙ ap (viewpoint c.args.serial) c.in_ok-body.ensures in
    ap (λ (v : ViewIs). Some v) made ∙ ap (option_map (viewpoint c.args.serial)) c.in-Some.ensures.value
    ∙ ap (λ (b : BoardState). option_map (viewpoint c.args.serial) (view_at b c.args.topic c.args.serial)) c.self.view_is

pub returns-in_default : goal.returns-in_default
returns-in_default c =
    ap (option_map (viewpoint c.args.serial)) c.in_default.ensures.value
    ∙ ap (λ (b : BoardState). option_map (viewpoint c.args.serial) (view_at b c.args.topic c.args.serial)) c.self.view_is
