-- A book that one thread calls, turn by turn.
use Rattle.std.specs.Prelude.{◌≡◌, ℕ, ◌+◌, ◌++◌, List, Result, Ok, Err}
use Rattle.std.specs.declared.alloc.AllocError.{AllocError}
use Rattle.book_turn.specs.declared.object.Stamp.{Stamp}
use Rattle.book_history.specs.declared.limits.Settings.{Settings}
use Rattle.book_history.specs.declared.changes.Entry.{Entry}
use Rattle.book_history.specs.declared.requests.BookCall.{BookCall}
use Rattle.book_history.specs.History.{left_all}
use Rattle.book_history.specs.Requests.{added_by, reply_of}
use Rattle.bim_session.specs.Talking.{BookReceipt}

-- what contracts see of a one-thread book: its settings, its history, and how many turns were taken
pub record ServerState : Type 0 where
  pub settings : Settings
  pub history : List Entry
  pub turns : ℕ

-- the stamp of a turn that the one actor takes
abbrev pub stamp_of : ℕ → Stamp
stamp_of turn = record { turn = turn; pass = 0; call = turn }

-- the next turn is taken by a call
abbrev pub with_turn : BookCall → ServerState → ServerState
with_turn call s = record {
  settings = s.settings;
  history = s.history ++ added_by s.settings s.history (stamp_of (s.turns + 1)) call;
  turns = s.turns + 1;
}

-- how many buckets of live versions are to be checked
abbrev pub left_of : ServerState → ℕ
left_of s = left_all s.settings.projects s.history

-- a call takes the next turn and is answered at the history so far, or nothing happens
abbrev pub Calls : BookCall → ServerState → Result BookReceipt AllocError → ServerState → Type 0
Calls call old (Ok receipt) new =
    (receipt.turn ≡ old.turns + 1)
    × (receipt.reply ≡ reply_of old.settings old.history (stamp_of (old.turns + 1)) call)
    × (new ≡ with_turn call old)
Calls call old (Err e) new = new ≡ old
