-- What follows of the promises of a call of the book.
use Rattle.std.specs.Prelude.{◌≡◌, ℕ, ◌++◌, List, []}
use Rattle.book_turn.specs.Passes.{KeepsNumbers}
use Rattle.book_history.specs.declared.limits.Settings.{Settings}
use Rattle.book_history.specs.declared.changes.Entry.{Entry}
use Rattle.book_history.specs.declared.requests.BookCall.{BookCall}
use Rattle.book_history.specs.declared.replies.BookReply.{BookReply}
use Rattle.book_history.specs.Requests.{added_by, reply_of}
use Rattle.book_passes.specs.Lessons.{BookPass, CallerSeen, IsAnswered, IsIdle, TakesTurn, Learns, caller_of, stamp_in}

-- a call that is answered takes its turn, adds what it adds at the entries below it, and is answered as there
pub record TakesCall (settings : Settings) (call : BookCall) (turn : ℕ) (reply : BookReply)
    (v w : CallerSeen) : Type 0 where
  pub others : List Entry
  pub takes : TakesTurn turn others (added_by settings (v.seen ++ others) (stamp_in turn v) call) v w
  pub replied : reply ≡ reply_of settings (v.seen ++ others) (stamp_in turn v) call

-- a call that is answered is such a call
abbrev pub CallsTeach : Type 0
CallsTeach =
    (settings : Settings) (call : BookCall) (turn : ℕ) (reply : BookReply) (v w : BookPass)
    → KeepsNumbers v w → IsAnswered settings call turn reply v w
    → TakesCall settings call turn reply (caller_of v) (caller_of w)

-- a call that is not answered out of memory takes its turn and adds nothing
abbrev pub IdleTurnsTeach : Type 0
IdleTurnsTeach =
    (v w : BookPass) → KeepsNumbers v w → IsIdle v w
    → (turn : ℕ) × (others : List Entry) × TakesTurn turn others [] (caller_of v) (caller_of w)

-- a caller that takes a turn learns the entries of others, and then those that are added
abbrev pub TurnsTeach : Type 0
TurnsTeach =
    (turn : ℕ) (others added : List Entry) (v w : CallerSeen) → TakesTurn turn others added v w
    → Learns v w (others ++ added)

-- what a caller learns at two times adds up
abbrev pub LessonsAddUp : Type 0
LessonsAddUp =
    (u v w : CallerSeen) (first second : List Entry) → Learns u v first → Learns v w second
    → Learns u w (first ++ second)
