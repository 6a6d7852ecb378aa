-- What a pass of the book comes to know.
use Rattle.std.specs.Prelude.{◌≡◌, ◌≤◌, ◌<◌, ℕ, ◌+◌, ◌++◌, List, [], ◌∷◌}
use Rattle.book_turn.specs.declared.object.Stamp.{Stamp}
use Rattle.book_turn.specs.Entries.{AllBefore, AllAfter, calls_by}
use Rattle.book_turn.specs.Passes.{PassState, Answered, GotNothing}
use Rattle.book_history.specs.declared.limits.Settings.{Settings}
use Rattle.book_history.specs.declared.changes.Entry.{Entry}
use Rattle.book_history.specs.declared.requests.BookCall.{BookCall}
use Rattle.book_history.specs.declared.replies.BookReply.{BookReply}
use Rattle.book_history.specs.Requests.{reply_of, entry_added}

-- a pass of the book
abbrev pub BookPass : Type 0
BookPass = PassState Entry Settings

-- the stamp of an entry
abbrev pub stamp_of : Entry → Stamp
stamp_of e = e.stamp

-- the turn of an entry
abbrev pub turn_of : Entry → ℕ
turn_of e = e.stamp.turn

-- what is seen of who calls the book: the number of its pass, and that with those of the passes that were joined into it;
-- the entries that it has seen, up to the last turn that it took; and how many calls it made
pub record CallerSeen : Type 0 where
  pub number : ℕ
  pub numbers : List ℕ
  pub seen : List Entry
  pub last : ℕ
  pub made : ℕ

-- the same of a pass
abbrev pub caller_of : BookPass → CallerSeen
caller_of v = record {
  number = v.number;
  numbers = v.numbers;
  seen = v.seen;
  last = v.last;
  made = v.made;
}

-- the number of a caller's pass, and which passes were joined into it, stay
pub record Keeps (v w : CallerSeen) : Type 0 where
  pub number : w.number ≡ v.number
  pub numbers : w.numbers ≡ v.numbers

-- the stamp of a caller's next call, in a turn
abbrev pub stamp_in : ℕ → CallerSeen → Stamp
stamp_in turn v = record { turn = turn; pass = v.number; call = v.made + 1 }

-- those of the entries that the caller's pass made, or one that was joined into it
abbrev pub own_of : CallerSeen → List Entry → List Entry
own_of v es = calls_by (λ (e : Entry). e.stamp.pass) v.numbers es

-- a call of the book is answered in a turn
abbrev pub IsAnswered : Settings → BookCall → ℕ → BookReply → BookPass → BookPass → Type 0
IsAnswered settings call turn reply v w =
    Answered stamp_of reply_of entry_added settings turn call reply v w

-- a turn is taken, and nothing is added
abbrev pub IsIdle : BookPass → BookPass → Type 0
IsIdle v w = GotNothing stamp_of v w

-- each entry is of this turn
abbrev pub AllOf : ℕ → List Entry → Type 0
AllOf turn [] = Unit {0}
AllOf turn (e ∷ es) = (e.stamp.turn ≡ turn) × AllOf turn es

-- A caller takes a turn: it comes to see the entries of earlier turns, those that are new to it being by other passes, and
-- then the entries that are added in the turn.
pub record TakesTurn (turn : ℕ) (others added : List Entry) (v w : CallerSeen) : Type 0 where
  pub keeps : Keeps v w
  pub above : v.last < turn
  pub last : w.last ≡ turn
  pub made : w.made ≡ v.made + 1
  pub seen : w.seen ≡ (v.seen ++ others) ++ added
  pub since : AllAfter turn_of v.last others
  pub below : AllBefore turn_of turn (v.seen ++ others)
  pub not_own : own_of v others ≡ []
  pub in_turn : AllOf turn added

-- A caller came to see these entries after those that it had seen. They are of later turns than its last. Where it had
-- seen none of a turn after its last, it has seen none so now.
pub record Learns (v w : CallerSeen) (news : List Entry) : Type 0 where
  pub keeps : Keeps v w
  pub seen : w.seen ≡ v.seen ++ news
  pub later : AllAfter turn_of v.last news
  pub rises : v.last ≤ w.last
  pub up_to : AllBefore turn_of (v.last + 1) v.seen → AllBefore turn_of (w.last + 1) w.seen
