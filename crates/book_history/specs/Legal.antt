-- Which requests may be made at a history.
use Rattle.std.specs.Prelude.{◌≡◌, ◌≤◌, List}
use Rattle.bucket_grid.specs.Cells.{IsBucket}
use Rattle.bucket_check.specs.declared.bucket_work.BucketWork.{BucketWork}
use Rattle.book_history.specs.declared.limits.Settings.{Settings}
use Rattle.book_history.specs.declared.requests.BookRequest.{BookRequest}
use Rattle.book_history.specs.declared.requests.BookRequest.TheVariants.{Finish}
use Rattle.book_history.specs.declared.changes.Entry.{Entry}
use Rattle.book_history.specs.History.{newest_of, content_of}

-- a work is one of the history: a bucket of what the version that it names holds there
pub record IsGiven (settings : Settings) (history : List Entry) (work : BucketWork) : Type 0 where
  pub low : 1 ≤ work.project
  pub high : work.project ≤ settings.projects
  pub made : work.version ≤ newest_of work.project history
  pub content : work.grid.version ≡ content_of work.project work.version history
  pub bucket : IsBucket work.grid.boxes work.cell

-- a bucket's clashes may be brought where its work is one of the history; every other request may be made
-- at any time
abbrev pub IsLegal : Settings → List Entry → BookRequest → Type 0
IsLegal settings history (Finish set) = IsGiven settings history set.work
IsLegal settings history _ = Unit {0}
