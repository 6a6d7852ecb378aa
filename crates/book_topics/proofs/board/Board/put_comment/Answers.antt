use Rattle.std.proofs.Common.{Option, Some, IsSome, sym, ap, ap₂, ◌∙◌, subst}
use Rattle.std.specs.Option.{option_map, option_copied}
use Rattle.std.proofs.lemmas.Bool.{false≢true}
use Rattle.bcf_topics.specs.declared.comment.Comment.{Comment}
use Rattle.bcf_topics.specs.Comments.{comment_put}
use Rattle.bcf_topics.specs.Discussions.{Discussion}
use Rattle.book_topics.specs.Boards.{BoardState, topic_at, comment_at, comment_replaced}
use Rattle.book_topics.proofs.Boards.{board, comment_replaced_is, comment_unrefused, no_error}
use Rattle.book_topics.proofs.board.Board.put_comment.Goals as goal

pub unreachable-requires : goal.unreachable-requires
unreachable-requires c =
    let there = subst (λ (b : BoardState). IsSome (comment_at b c.args.topic c.args.serial)) (sym c.self.view_is) c.requires.there in
    false≢true (subst (λ (o : Option Comment). IsSome o) (sym c.comment.ensures ∙ ap option_copied c.in_default.is) there)

pub unreachable-requires-in_default-put_comment : goal.unreachable-requires-in_default-put_comment
unreachable-requires-in_default-put_comment c =
    let topic = subst (λ (b : BoardState). IsSome (topic_at b c.args.topic)) (sym c.self.view_is) c.requires.topic in
    let there = subst (λ (b : BoardState). IsSome (comment_at b c.args.topic c.args.serial)) (sym c.self.view_is) c.requires.there in
    no_error _ _ _ c.put_comment.ensures.answer (comment_unrefused c.args.topic c.args.serial c.self.inside.topics topic there) c.in_default-put_comment.is

pub invariant_of-self : goal.invariant_of-self
invariant_of-self c =
    let b = board c.self.inside.topics c.self.inside.views c.self.inside.made in
    rw c.in-Ok.ensures.after (comment_replaced_is b c.args.topic c.args.serial c.in_ok-put.put.body c.in_ok-put.put.author c.self.invariant)

pub returns-clause-told : goal.returns-clause-told
returns-clause-told c =
    let put = comment_put c.args.body.now c.args.author.now in
    let found = sym (ap option_copied c.in-Some.is) ∙ c.comment.ensures in
    ap (λ (t : Comment). Some t) c.in_ok-put.ensures.told ∙ ap (option_map put) found
    ∙ ap (λ (b : BoardState). option_map put (comment_at b c.args.topic c.args.serial)) c.self.view_is

pub returns-clause-ok : goal.returns-clause-ok
returns-clause-ok c =
    let b = board c.self.inside.topics c.self.inside.views c.self.inside.made in
    ap (λ (d : Discussion). board d b.views b.made) c.in-Ok.ensures.after
    ∙ ap₂ (comment_replaced b c.args.topic c.args.serial) c.in_ok-put.ensures.body c.in_ok-put.ensures.author
    ∙ ap (λ (x : BoardState). comment_replaced x c.args.topic c.args.serial c.args.body.now c.args.author.now) c.self.view_is
