-- Laws of histories and of grids.
use Rattle.std.specs.Prelude.{◌≡◌, ℕ, ◌++◌, List}
use Rattle.bim_model.specs.Snapshots.{IsSnapshot}
use Rattle.bucket_grid.specs.Cells.{IsBucket}
use Rattle.bucket_grid.specs.Grids.{GridValue, IsGrid}
use Rattle.bucket_check.specs.declared.bucket_work.BucketWork.{BucketWork}
use Rattle.book_history.specs.declared.limits.Settings.{Settings}
use Rattle.book_history.specs.declared.changes.Entry.{Entry}
use Rattle.book_history.specs.declared.requests.BookRequest.{BookRequest}
use Rattle.book_history.specs.declared.requests.BookRequest.TheVariants.{TakeWork}
use Rattle.book_history.specs.declared.replies.ReplyBody.TheVariants as reply
use Rattle.book_history.specs.Orders.{order_of}
use Rattle.book_history.specs.Requests.{outcome_of, body_of}
use Rattle.book_history.specs.Legal.{IsGiven, IsLegal}

-- the places, boxes and buckets of a grid are those of its version
abbrev pub IsWhole : GridValue → Type 0
IsWhole g = IsSnapshot g.version.models × IsGrid g.version g.places g.boxes g.buckets

-- two grids of one version are the same
abbrev pub GridsAreOne : Type 0
GridsAreOne = (g k : GridValue) → IsWhole g → IsWhole k → g.version ≡ k.version → g ≡ k

-- a work that is given out at a history is one of every history that begins with it
abbrev pub WorkStaysGiven : Type 0
WorkStaysGiven =
    (settings : Settings) (history more : List Entry) (seat : ℕ) (work : BucketWork)
    → body_of history (outcome_of settings history (TakeWork seat)) ≡ reply.Work (order_of work)
    → IsBucket work.grid.boxes work.cell → IsGiven settings (history ++ more) work

-- a request that may be made at a history may be made at every history that begins with it
abbrev pub RequestsStayLegal : Type 0
RequestsStayLegal =
    (settings : Settings) (history more : List Entry) (request : BookRequest)
    → IsLegal settings history request → IsLegal settings (history ++ more) request
