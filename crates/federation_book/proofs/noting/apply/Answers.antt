use Rattle.std.proofs.Common.{Option, IsSome, IfSome, subst}
use Rattle.std.proofs.lemmas.Bool.{false≢true}
use Rattle.bim_model.specs.declared.guid.Guid.{Guid}
use Rattle.federation_book.specs.inner.Noting.{AreGuids, Fits}
use Rattle.federation_book.proofs.Applied.{post_topic_applied, put_topic_applied, delete_topic_applied, clash_applied}
use Rattle.federation_book.proofs.Noted.{fits_further}
use Rattle.federation_book.proofs.noting.apply.Goals as goal

pub returns-in_ok-made-in-PostTopic-clause-ok : goal.returns-in_ok-made-in-PostTopic-clause-ok
returns-in_ok-made-in-PostTopic-clause-ok c =
    post_topic_applied c.args.pair c.args.change.now c.args.board.now c.post_topic.new.self c.in-PostTopic.body c.in-PostTopic.author _ c.in_ok-made-in-PostTopic.made
    c.in-PostTopic.is c.in_ok-made-in-PostTopic.ensures.told c.in_ok-made-in-PostTopic.ensures.ok

pub put_topic-requires : goal.put_topic-requires
put_topic-requires c =
    subst (Fits c.args.board.now c.args.pair) c.in-PutTopic.is c.requires.fits

pub returns-in_ok-put-in-PutTopic-clause-ok : goal.returns-in_ok-put-in-PutTopic-clause-ok
returns-in_ok-put-in-PutTopic-clause-ok c =
    put_topic_applied c.args.pair c.args.change.now c.args.board.now c.put_topic.new.self c.in-PutTopic.topic c.in-PutTopic.body c.in-PutTopic.author _ c.in_ok-put-in-PutTopic.put
    c.in-PutTopic.is c.in_ok-put-in-PutTopic.ensures.told c.in_ok-put-in-PutTopic.ensures.ok

pub delete_topic-requires : goal.delete_topic-requires
delete_topic-requires c =
    subst (Fits c.args.board.now c.args.pair) c.in-DeleteTopic.is c.requires.fits

pub returns-in-DeleteTopic-clause-ok : goal.returns-in-DeleteTopic-clause-ok
returns-in-DeleteTopic-clause-ok c =
    delete_topic_applied c.args.pair c.args.change.now c.args.board.now c.delete_topic.new.self c.in-DeleteTopic.topic c.in-DeleteTopic.is c.delete_topic.ensures

pub unreachable-requires : goal.unreachable-requires
unreachable-requires c =
    let fits = subst (Fits c.args.board.now c.args.pair) c.in-ClashTopic.is c.requires.fits in
    false≢true (subst (λ (o : Option (Guid × Guid)). IsSome o) c.in_default-pair.is fits.0)

pub post_clash-requires-clause-first : goal.post_clash-requires-clause-first
post_clash-requires-clause-first c =
    let fits = subst (Fits c.args.board.now c.args.pair) c.in-ClashTopic.is c.requires.fits in
    (subst (λ (o : Option (Guid × Guid)). IfSome o AreGuids) c.in-Some.is fits.1).first

pub post_clash-requires-clause-second : goal.post_clash-requires-clause-second
post_clash-requires-clause-second c =
    let fits = subst (Fits c.args.board.now c.args.pair) c.in-ClashTopic.is c.requires.fits in
    (subst (λ (o : Option (Guid × Guid)). IfSome o AreGuids) c.in-Some.is fits.1).second

pub returns-in_ok-noted-in-ClashTopic-clause-ok : goal.returns-in_ok-noted-in-ClashTopic-clause-ok
returns-in_ok-noted-in-ClashTopic-clause-ok c =
    clash_applied c.args.pair c.args.change.now c.args.board.now c.post_clash.new.self _ _ c.in-ClashTopic.author _ (c.in-Some.a, c.in-Some.b) c.in_ok-noted-in-ClashTopic.noted
    c.in-ClashTopic.is c.in-Some.is c.in_ok-noted-in-ClashTopic.ensures.told c.in_ok-noted-in-ClashTopic.ensures.ok

pub apply_further-requires-clause-further : goal.apply_further-requires-clause-further
apply_further-requires-clause-further c =
    fits_further c.args.board.now c.args.pair c.args.change.now c.requires.fits c.in_default.not-PostTopic c.in_default.not-PutTopic c.in_default.not-DeleteTopic c.in_default.not-ClashTopic
