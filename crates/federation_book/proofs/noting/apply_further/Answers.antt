use Rattle.std.proofs.Common.{subst}
use Rattle.federation_book.specs.inner.Noting.{Fits}
use Rattle.federation_book.proofs.Applied.{post_comment_applied, put_comment_applied, delete_comment_applied, post_view_applied, delete_view_applied}
use Rattle.federation_book.proofs.Noted.{further_only}
use Rattle.federation_book.proofs.noting.apply_further.Goals as goal

pub post_comment-requires-clause-there : goal.post_comment-requires-clause-there
post_comment-requires-clause-there c =
    subst (Fits c.args.board.now c.args.pair) c.in-PostComment.is c.requires.fits

pub returns-in_ok-made-in-PostComment-clause-ok : goal.returns-in_ok-made-in-PostComment-clause-ok
returns-in_ok-made-in-PostComment-clause-ok c =
    post_comment_applied c.args.pair c.args.change.now c.args.board.now c.post_comment.new.self c.in-PostComment.topic c.in-PostComment.body c.in-PostComment.author _ c.in_ok-made-in-PostComment.made
    c.in-PostComment.is c.in_ok-made-in-PostComment.ensures.told c.in_ok-made-in-PostComment.ensures.ok

pub put_comment-requires-clause-topic : goal.put_comment-requires-clause-topic
put_comment-requires-clause-topic c =
    (subst (Fits c.args.board.now c.args.pair) c.in-PutComment.is c.requires.fits).0

pub put_comment-requires-clause-there : goal.put_comment-requires-clause-there
put_comment-requires-clause-there c =
    (subst (Fits c.args.board.now c.args.pair) c.in-PutComment.is c.requires.fits).1

pub returns-in_ok-put-in-PutComment-clause-ok : goal.returns-in_ok-put-in-PutComment-clause-ok
returns-in_ok-put-in-PutComment-clause-ok c =
    put_comment_applied c.args.pair c.args.change.now c.args.board.now c.put_comment.new.self c.in-PutComment.topic c.in-PutComment.comment c.in-PutComment.body c.in-PutComment.author _ c.in_ok-put-in-PutComment.put
    c.in-PutComment.is c.in_ok-put-in-PutComment.ensures.told c.in_ok-put-in-PutComment.ensures.ok

pub delete_comment-requires-clause-topic : goal.delete_comment-requires-clause-topic
delete_comment-requires-clause-topic c =
    (subst (Fits c.args.board.now c.args.pair) c.in-DeleteComment.is c.requires.fits).0

pub delete_comment-requires-clause-there : goal.delete_comment-requires-clause-there
delete_comment-requires-clause-there c =
    (subst (Fits c.args.board.now c.args.pair) c.in-DeleteComment.is c.requires.fits).1

pub returns-in-DeleteComment-clause-ok : goal.returns-in-DeleteComment-clause-ok
returns-in-DeleteComment-clause-ok c =
    delete_comment_applied c.args.pair c.args.change.now c.args.board.now c.delete_comment.new.self c.in-DeleteComment.topic c.in-DeleteComment.comment c.in-DeleteComment.is c.delete_comment.ensures

pub post_view-requires-clause-there : goal.post_view-requires-clause-there
post_view-requires-clause-there c =
    subst (Fits c.args.board.now c.args.pair) c.in-PostView.is c.requires.fits

pub returns-in_ok-view-in-PostView-clause-ok : goal.returns-in_ok-view-in-PostView-clause-ok
returns-in_ok-view-in-PostView-clause-ok c =
    post_view_applied c.args.pair c.args.change.now c.args.board.now c.post_view.new.self c.in-PostView.topic c.in-PostView.body _ c.in_ok-view-in-PostView.view
    c.in-PostView.is c.in_ok-view-in-PostView.ensures.told c.in_ok-view-in-PostView.ensures.ok

pub delete_view-requires : goal.delete_view-requires
delete_view-requires c =
    subst (Fits c.args.board.now c.args.pair) c.in-DeleteView.is c.requires.fits

pub returns-in-DeleteView-clause-ok : goal.returns-in-DeleteView-clause-ok
returns-in-DeleteView-clause-ok c =
    delete_view_applied c.args.pair c.args.change.now c.args.board.now c.delete_view.new.self c.in-DeleteView.topic c.in-DeleteView.view c.in-DeleteView.is c.delete_view.ensures

pub unreachable-requires : goal.unreachable-requires
unreachable-requires c =
    further_only c.args.change.now c.requires.further c.in_default.not-PostComment c.in_default.not-PutComment c.in_default.not-DeleteComment c.in_default.not-PostView c.in_default.not-DeleteView
