-- What a worker does, and what its pass comes to know.
use Rattle.std.specs.Prelude.{◌≡◌, ◌⊎◌, ℕ, List, [], ◌∷◌}
use Rattle.bucket_grid.specs.declared.cell.Cell.{Cell}
use Rattle.bucket_check.specs.ClashSets.{SetValue, IsSetOf}
use Rattle.book_history.specs.declared.limits.Settings.{Settings}
use Rattle.book_history.specs.declared.changes.Entry.{Entry}
use Rattle.book_history.specs.declared.changes.Change.TheVariants.{BucketDone}
use Rattle.book_history.specs.declared.book_fault.BookFault.TheVariants.{NoWork, AlreadyDone, VersionDropped}
use Rattle.book_history.specs.declared.requests.BookRequest.TheVariants.{TakeWork, Finish}
use Rattle.book_history.specs.declared.replies.BookReply.{BookReply}
use Rattle.book_history.specs.declared.replies.ReplyBody.{ReplyBody}
use Rattle.book_history.specs.declared.replies.ReplyBody.TheVariants.{Work, Finished, Refused}
use Rattle.book_history.specs.Orders.{OrderValue, order_of}
use Rattle.book_history.specs.Requests.{without_turn}
use Rattle.book_passes.specs.Lessons.{BookPass, CallerSeen, IsAnswered, Learns, own_of}
use Rattle.check_workers.specs.declared.work.Worked.{Worked}
use Rattle.check_workers.specs.declared.work.Worked.TheVariants.{Done, Already, Dropped, Nothing}

-- the set is what was found for the bucket of an order: exactly the clashes that it owns
pub record IsFoundFor (order : OrderValue) (set : SetValue) : Type 0 where
  pub order_is : order_of set.work ≡ order
  pub set_is : IsSetOf set.work.grid set.work.cell set

-- what a reply to a set says
abbrev pub tells : ReplyBody → Worked → Type 0
tells reply worked =
    ((left : ℕ) × (reply ≡ Finished left) × (worked ≡ Done left))
    ⊎ (((reply ≡ Refused AlreadyDone) × (worked ≡ Already))
    ⊎ ((version : ℕ) × (newest : ℕ) × (reply ≡ Refused (VersionDropped version newest))
    × (worked ≡ Dropped newest)))

-- it is one of these
abbrev pub IsFinishTold : ReplyBody → Type 0
IsFinishTold reply = (worked : Worked) × tells reply worked

-- the entry says that a bucket is checked
abbrev pub IsDone : Entry → Type 0
IsDone e = (version : ℕ) × (cell : Cell) × (e.change ≡ BucketDone version cell)

-- each of the entries does
abbrev pub AreDone : List Entry → Type 0
AreDone [] = Unit {0}
AreDone (e ∷ es) = IsDone e × AreDone es

-- each of the entries carries the pass of this number
abbrev pub AreMadeBy : ℕ → List Entry → Type 0
AreMadeBy number [] = Unit {0}
AreMadeBy number (e ∷ es) = (e.stamp.pass ≡ number) × AreMadeBy number es

-- What a pass had seen is a front of what it has seen. Of the entries after that front, those that it made, or a pass
-- that was joined into it, carry its own number and say that buckets are checked, and nothing else.
pub record Teaches (v w : CallerSeen) : Type 0 where
  pub news : List Entry
  pub learns : Learns v w news
  pub done : AreDone (own_of v news)
  pub made_by : AreMadeBy v.number (own_of v news)

-- no bucket was to be checked at the turn that was taken
pub record FindsNone (settings : Settings) (seat : ℕ) (v w : BookPass) : Type 0 where
  pub turn : ℕ
  pub reply : BookReply
  pub asked : IsAnswered settings (without_turn (TakeWork seat)) turn reply v w
  pub refused : reply.body ≡ Refused NoWork

-- A bucket was taken out at one turn, and the set that was found for it was brought at another.
pub record Brings (settings : Settings) (seat : ℕ) (v w : BookPass) (worked : Worked) : Type 0 where
  pub between : BookPass
  pub turn : ℕ
  pub reply : BookReply
  pub order : OrderValue
  pub asked : IsAnswered settings (without_turn (TakeWork seat)) turn reply v between
  pub given : reply.body ≡ Work order
  pub set : SetValue
  pub found : IsFoundFor order set
  pub later : ℕ
  pub answer : BookReply
  pub brought : IsAnswered settings (without_turn (Finish set)) later answer between w
  pub told : tells answer.body worked

-- a worker's turns
abbrev pub WorksOne : Settings → ℕ → BookPass → BookPass → Worked → Type 0
WorksOne settings seat v w worked =
    (FindsNone settings seat v w × (worked ≡ Nothing)) ⊎ Brings settings seat v w worked
