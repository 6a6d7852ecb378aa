use Rattle.std.proofs.Common.{Option, Some, IsSome, sym, ap, ap₂, ◌∙◌, subst}
use Rattle.std.specs.Option.{option_map, option_copied}
use Rattle.std.proofs.lemmas.Bool.{false≢true}
use Rattle.bcf_topics.specs.declared.topic.Topic.{Topic}
use Rattle.bcf_topics.specs.Topics.{topic_put}
use Rattle.bcf_topics.specs.Discussions.{Discussion}
use Rattle.book_topics.specs.Boards.{BoardState, topic_at, topic_replaced}
use Rattle.book_topics.proofs.Boards.{board, topic_replaced_is}
use Rattle.book_topics.proofs.board.Board.put_topic.Goals as goal

pub unreachable-requires : goal.unreachable-requires
unreachable-requires c =
    let there = subst (λ (b : BoardState). IsSome (topic_at b c.args.serial)) (sym c.self.view_is) c.requires in
    false≢true (subst (λ (o : Option Topic). IsSome o) (sym c.topic.ensures ∙ ap option_copied c.in_default.is) there)

pub invariant_of-self-2 : goal.invariant_of-self-2
invariant_of-self-2 c =
    let b = board c.self.inside.topics c.self.inside.views c.self.inside.made in
    rw c.in-Ok.ensures.after (topic_replaced_is b c.args.serial c.in_ok-put.put.body c.in_ok-put.put.author c.self.invariant)

pub returns-clause-told : goal.returns-clause-told
returns-clause-told c =
    let put = topic_put c.args.body.now c.args.author.now in
    let found = sym (ap option_copied c.in-Some.is) ∙ c.topic.ensures in
    ap (λ (t : Topic). Some t) c.in_ok-put.ensures.told ∙ ap (option_map put) found
    ∙ ap (λ (b : BoardState). option_map put (topic_at b c.args.serial)) c.self.view_is

pub returns-clause-ok : goal.returns-clause-ok
returns-clause-ok c =
    let b = board c.self.inside.topics c.self.inside.views c.self.inside.made in
    ap (λ (d : Discussion). board d b.views b.made) c.in-Ok.ensures.after
    ∙ ap₂ (topic_replaced b c.args.serial) c.in_ok-put.ensures.body c.in_ok-put.ensures.author
    ∙ ap (λ (x : BoardState). topic_replaced x c.args.serial c.args.body.now c.args.author.now) c.self.view_is
