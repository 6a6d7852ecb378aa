use Rattle.std.proofs.Common.{◌∙◌, ap, subst, sym}
use Rattle.bucket_check.specs.ClashSets.{SetValue}
use Rattle.bucket_check.specs.declared.bucket_work.BucketWork.{BucketWork}
use Rattle.book_history.specs.declared.requests.BookRequest.{BookRequest}
use Rattle.book_history.specs.HistoryLaws.{IsWhole}
use Rattle.book_history.specs.MadeEntries.{IsBuilt}
use Rattle.federation_book.proofs.book.know_built.Goals as goal

pub returns-in-Finish : goal.returns-in-Finish
returns-in-Finish c =
    subst (λ (r : BookRequest). IsBuilt r) (sym c.in-Finish.is)
    (subst IsWhole (c.get-in-Finish.ensures ∙ ap (λ (w : BucketWork). w.grid) (c.work.ensures ∙ ap (λ (s : SetValue). s.work) c.get.ensures)) c.know_whole.ensures)
