-- What may be asked at any time, and what stays as the book goes on.
use Rattle.std.specs.Prelude.{List}
use Rattle.bucket_check.specs.declared.bucket_work.BucketWork.{BucketWork}
use Rattle.book_history.specs.declared.limits.Settings.{Settings}
use Rattle.book_history.specs.declared.changes.Entry.{Entry}
use Rattle.book_history.specs.declared.requests.BookRequest.{BookRequest}
use Rattle.book_history.specs.Requests.{BookState}
use Rattle.book_history.specs.Legal.{IsLegal, IsGiven}

-- a request that may be made at every history
abbrev pub IsFree : BookRequest → Type 0
IsFree request = (settings : Settings) (history : List Entry) → IsLegal settings history request

-- what was given out before may be brought after
abbrev pub GivenStays : BookState → BookState → Type 0
GivenStays before after =
    (work : BucketWork) → IsGiven before.settings before.journal work
    → IsGiven after.settings after.journal work
