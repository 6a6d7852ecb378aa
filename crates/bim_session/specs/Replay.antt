-- A session over a one-thread book, as a run with one actor.
use Rattle.std.specs.Prelude.{◌≡◌, ◌⊎◌, ◌≤◌, ◌++◌, ℕ, List, [], length, Bool, false, Option, None, All}
use Rattle.bim_io.specs.Causes.{ComesOfFault, WithinMost}
use Rattle.bim_io.specs.StreamViews.{Outside, EndsEmpty, Exchanges}
use Rattle.http_frame.specs.Events.{Event, IsRest, IsTold}
use Rattle.book_history.specs.declared.limits.Settings.{Settings}
use Rattle.book_history.specs.Settings.{stated_limits}
use Rattle.book_history.specs.declared.changes.Entry.{Entry}
use Rattle.book_history.specs.declared.book_fault.BookFault.TheVariants.{Pending}
use Rattle.book_history.specs.declared.replies.ReplyBody.{ReplyBody}
use Rattle.book_history.specs.declared.replies.ReplyBody.TheVariants.{Refused}
use Rattle.book_history.specs.History.{at_turn}
use Rattle.book_history.specs.Requests.{reply_of}
use Rattle.book_history.specs.Runs.{Step, IsRun, IsOneThread}
use Rattle.bim_session.specs.declared.talk.TheConstants.{MOST_READ}
use Rattle.bim_session.specs.declared.end.SessionEnd.{SessionEnd}
use Rattle.bim_session.specs.declared.end.SessionEnd.TheVariants.{Closed, Asked, Cut, ReadFault, WriteFault, Frame, Spent, SpentTurns, Memory}
use Rattle.bim_session.specs.Works.{Standing}
use Rattle.bim_session.specs.Session.{Session, Reads}

-- it ends by a failed read
abbrev pub IsReadFault : SessionEnd → Type 0
IsReadFault end = (n : ℕ) × (end ≡ ReadFault n)

-- it ends by a failed write
abbrev pub IsWriteFault : SessionEnd → Type 0
IsWriteFault end = (n : ℕ) × (end ≡ WriteFault n)

-- a book of the program with so many projects
abbrev pub stated_settings : ℕ → Settings
stated_settings projects = record { projects = projects; limits = stated_limits }

-- where a session over a new book begins, after whose answers so many buckets are worked, and whose steps have turns up
-- to this one
abbrev pub beginning : Settings → Option ℕ → List Entry → ℕ → Standing
beginning settings buckets history top = record {
  settings = settings;
  history = history;
  buckets = buckets;
  last = 0;
  printed = record { turn = 0; sets = [] };
  top = top;
  served = 0;
}

-- the most bytes that a session takes by one read
abbrev pub most_read : ℕ
most_read = MOST_READ

-- one read of a source that gives no more than this at once, where it has such a bound, may give so many
-- bytes
abbrev pub IsOneRead : Option ℕ → ℕ → Type 0
IsOneRead most n = (n ≤ most_read) × WithinMost most n

-- these bytes hold no event that is not among the first of those answered
pub record HoldsNoMore (bytes : List ℕ) (events : List Event) : Type 0 where
  pub first : List Event
  pub later : List Event
  pub rest : List ℕ
  pub told : Bool
  pub events_are : events ≡ first ++ later
  pub reads : Reads bytes false first rest told
  pub settled : IsTold told rest
  pub nothing : IsRest rest

-- No more was read than was needed: what was read before the last piece, which one read may have given, holds
-- no event that was not answered.
pub record ReadsAsNeeded (most : Option ℕ) (input : List ℕ) (events : List Event) : Type 0 where
  pub earlier : List ℕ
  pub piece : List ℕ
  pub input_is : input ≡ earlier ++ piece
  pub one_read : IsOneRead most (length piece)
  pub needed : (earlier ≡ []) ⊎ HoldsNoMore earlier events

-- A source gave the input and has nothing left once it answered its end, a clock gave the moments, and a sink
-- took the output. The steps of the session are the turns of a run with one actor, from 1 without a gap, and
-- its history is the one whose entries below a printed turn decide the reply. They are those of the requests,
-- and after each answer those of the work on buckets. It ends by a fault exactly where a read or a write
-- failed. Where an object doesn't tell, some input, some moments and some output are meant.
--
-- What is written before a read: since a session ends by the first call that fails, a read or a write,
-- nothing is written after a read that fails, and nothing is read after a write that fails. So a source whose
-- n-th read fails shows that all events of what the reads before it gave were answered before it, and a sink
-- whose n-th write fails shows that no read came between an event and its answer; where the source gives a
-- byte at a time, not a byte more was taken.
pub record Replays (settings : Settings) (buckets : Option ℕ) (before after : Outside)
    (end : SessionEnd) : Type 0 where
  pub input : List ℕ
  pub moments : List ℕ
  pub output : List ℕ
  pub history : List Entry
  pub steps : List Step
  pub exchanges : Exchanges before after input moments output
  pub empty : EndsEmpty after.source
  pub run : IsRun settings steps history
  pub one_thread : IsOneThread steps
  pub session : Session (beginning settings buckets history (length steps)) after.source.ended
      input moments output steps end
  pub as_needed : ReadsAsNeeded before.source.most input session.events
  pub read_fault : ComesOfFault before.source.faults after.source.faults (IsReadFault end)
  pub write_fault : ComesOfFault before.sink.faults after.sink.faults (IsWriteFault end)

-- the exit status of a session's end
abbrev pub status_of : SessionEnd → ℕ
status_of (Closed n) = 0
status_of (Asked n) = 0
status_of (Cut n) = 7
status_of (ReadFault n) = 4
status_of (WriteFault n) = 5
status_of (Frame n fault) = 7
status_of (Spent n) = 7
status_of (SpentTurns n) = 7
status_of (Memory n) = 6

-- ---- whole clashes

-- the reply says that buckets of a version are still to be checked
abbrev pub IsPending : ReplyBody → Type 0
IsPending body = (version : ℕ) × (left : ℕ) × (body ≡ Refused (Pending version left))

-- the reply to a step at the entries below its turn
abbrev pub reply_at : Settings → List Entry → Step → ReplyBody
reply_at settings history step =
    (reply_of settings (at_turn step.stamp.turn history) step.stamp step.call).body

-- where all buckets are worked after each answer, no step of the session is answered so
abbrev pub NoneIsPending : Type 0
NoneIsPending =
    (settings : Settings) (before after : Outside) (end : SessionEnd)
    (replays : Replays settings None before after end)
    → All (λ (step : Step). IsPending (reply_at settings replays.history step) → ⊥) replays.steps
