use Rattle.std.proofs.Common.{◌∙◌, ap, subst}
use Rattle.bucket_check.specs.ClashSets.{SetValue}
use Rattle.bucket_check.specs.declared.bucket_work.BucketWork.{BucketWork}
use Rattle.book_history.specs.HistoryLaws.{IsWhole}
use Rattle.book_history.proofs.BucketsAgain.{brought_bucket}
use Rattle.federation_book.specs.KeptProjects.{settings_of}
use Rattle.federation_book.proofs.Brought.{made_bucket}
use Rattle.federation_book.proofs.applying.bring_set.Goals as goal

pub returns-clause-brought : goal.returns-clause-brought
returns-clause-brought c =
    let whole = subst IsWhole (c.get-2.ensures ∙ ap (λ (w : BucketWork). w.grid) (c.work.ensures ∙ ap (λ (s : SetValue). s.work) c.get.ensures)) c.know_whole.ensures in
    brought_bucket (settings_of c.args.state.now) c.args.state.now.entries.items c.finish.new.state.entries.items c.args.stamp c.args.set whole c.requires.given c.in_ok-body.ensures.added

pub returns-clause-made : goal.returns-clause-made
returns-clause-made c =
    let whole = subst IsWhole (c.get-2.ensures ∙ ap (λ (w : BucketWork). w.grid) (c.work.ensures ∙ ap (λ (s : SetValue). s.work) c.get.ensures)) c.know_whole.ensures in
    λ made. made_bucket (settings_of c.args.state.now) c.args.state.now.entries.items c.finish.new.state.entries.items c.args.stamp c.args.set whole c.requires.given made c.in_ok-body.ensures.added
