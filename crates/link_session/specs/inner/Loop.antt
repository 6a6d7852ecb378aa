-- What a step of a session by a caller of the book does.
use Rattle.std.specs.Prelude.{◌≡◌, ◌⊎◌, ℕ, ◌<◌, ◌≤◌, List, [], length, Option, Some, Result, Ok, Err, IsTrue}
use Rattle.std.specs.declared.alloc.AllocError.{AllocError}
use Rattle.bim_io.specs.Causes.{Rose}
use Rattle.bim_io.specs.StreamViews.{SourceSeen, SinkSeen, Outside, SourceGives, SinkTakes}
use Rattle.book_history.specs.declared.limits.Settings.{Settings}
use Rattle.book_turn.specs.declared.call_fault.CallFault.{CallFault}
use Rattle.book_history.specs.declared.requests.BookCall.{BookCall}
use Rattle.book_history.specs.Runs.{Step}
use Rattle.book_passes.specs.Lessons.{CallerSeen}
use Rattle.bim_session.specs.declared.notes.Notes.{Notes}
use Rattle.bim_session.specs.declared.end.SessionEnd.{SessionEnd}
use Rattle.bim_session.specs.declared.end.SessionEnd.TheVariants as end
use Rattle.bim_session.specs.declared.want.Waiting.{Waiting}
use Rattle.bim_session.specs.declared.want.Want.{Want}
use Rattle.bim_session.specs.declared.want.Want.TheVariants.{More, Write, Call, Leave}
use Rattle.bim_session.specs.Replay.{IsOneRead}
use Rattle.bim_session.specs.Talking.{TalkState, BookReceipt, Feeds, Wants, LacksNext, IsOwnWant, AnswersCall, LeavesCall, with_answer, with_notes}
use Rattle.link_session.specs.Callers.{Calls, steps_of, WorksBehind}
use Rattle.bim_io.specs.Writes.{WritesLess}
use Rattle.link_session.specs.declared.session.AfterStep.{AfterStep}
use Rattle.link_session.specs.declared.session.AfterStep.TheVariants.{Again, End}

-- the steps by which a caller goes from the one to the other
abbrev pub Going : Type 1
Going = CallerSeen → List Step → CallerSeen → Type 0

-- ---- the parts of a step

-- how a read ends a session: it failed, or memory ran out for its piece
abbrev pub StopsReading : SourceSeen → SourceSeen → ℕ → List ℕ → SessionEnd → Type 0
StopsReading source source' served piece e =
    ((e ≡ end.ReadFault served) × (piece ≡ []) × Rose source.faults source'.faults)
    ⊎ ((e ≡ end.Memory served) × (source'.faults ≡ source.faults))

-- a read gave a piece, which was fed, or the end; or it ended the session
abbrev pub Reading : SourceSeen → SourceSeen → TalkState → AfterStep → TalkState → Type 0
Reading source source' old Again new =
    (piece : List ℕ) × SourceGives source source' piece × IsOneRead source.most (length piece)
    × (source'.faults ≡ source.faults) × Feeds piece old new × (piece ≡ [] → IsTrue source'.ended)
Reading source source' old (End e) new =
    (piece : List ℕ) × SourceGives source source' piece × IsOneRead source.most (length piece)
    × StopsReading source source' old.served piece e

-- the bytes were written, or a front of them, which ends the session
abbrev pub Writing : ℕ → SinkSeen → SinkSeen → List ℕ → AfterStep → Type 0
Writing served sink sink' bytes Again = SinkTakes sink sink' bytes × (sink'.faults ≡ sink.faults)
Writing served sink sink' bytes (End e) = (e ≡ end.WriteFault served) × WritesLess sink sink' bytes

-- how the answer to a call ends a session: the talk gives none, out of memory or without a turn, or it was not written
-- whole
abbrev pub StopsAnswering : SinkSeen → SinkSeen → TalkState → Result BookReceipt CallFault → Waiting
    → SessionEnd → Type 0
StopsAnswering sink sink' talk receipt waiting e =
    (((later : TalkState) × LeavesCall receipt talk e later) × (sink' ≡ sink))
    ⊎ ((bytes : List ℕ) × (notes : Notes) × AnswersCall receipt waiting talk.notes bytes notes
    × (e ≡ end.WriteFault talk.served) × WritesLess sink sink' bytes)

-- the book was called for the request that waits, and its response written; or that ended the session
abbrev pub Called : Settings → Going → BookCall → SinkSeen → SinkSeen → TalkState → CallerSeen → AfterStep
    → TalkState → CallerSeen → Type 0
Called settings goes call sink sink' talk server Again talk' server' =
    (waiting : Waiting) × (talk.waits ≡ Some waiting)
    × (receipt : Result BookReceipt CallFault) × (bytes : List ℕ)
    × Calls settings call server receipt server' × goes server (steps_of call server receipt) server'
    × AnswersCall receipt waiting talk.notes bytes talk'.notes
    × (talk' ≡ with_notes talk'.notes (with_answer waiting.close talk))
    × SinkTakes sink sink' bytes × (sink'.faults ≡ sink.faults)
Called settings goes call sink sink' talk server (End e) talk' server' =
    (waiting : Waiting) × (talk.waits ≡ Some waiting) × (receipt : Result BookReceipt CallFault)
    × Calls settings call server receipt server' × goes server (steps_of call server receipt) server'
    × StopsAnswering sink sink' talk receipt waiting e

-- ---- a step

-- what a talk wanted was done, before which so many requests were answered
abbrev pub Does : Settings → Going → ℕ → Outside → Outside → TalkState → CallerSeen → Want → AfterStep
    → TalkState
    → CallerSeen → Type 0
Does settings goes served before after talk server More progress talk' server' =
    Reading before.source after.source talk progress talk' × (after.sink ≡ before.sink) × (server' ≡ server)
Does settings goes served before after talk server (Write bytes) progress talk' server' =
    Writing served before.sink after.sink bytes progress × (after.source ≡ before.source)
    × (talk' ≡ talk) × (server' ≡ server)
Does settings goes served before after talk server (Call call) progress talk' server' =
    Called settings goes call before.sink after.sink talk server progress talk' server'
    × (after.source ≡ before.source)
Does settings goes served before after talk server (Leave e) progress talk' server' =
    (progress ≡ End e) × (after.source ≡ before.source) × (after.sink ≡ before.sink) × (server' ≡ server)

-- memory ran out for what a talk would have wanted
abbrev pub Stopped : Outside → Outside → TalkState → CallerSeen → AfterStep → TalkState → CallerSeen → Type 0
Stopped before after talk server progress talk' server' =
    LacksNext before.clock after.clock talk talk' × (progress ≡ End (end.Memory talk.served))
    × (after.source ≡ before.source) × (after.sink ≡ before.sink) × (server' ≡ server)

-- a step of a session: the talk was asked what it wants, and that was done
abbrev pub StepsOn : Settings → Going → Outside → Outside → TalkState → CallerSeen → AfterStep → TalkState
    → CallerSeen → Type 0
StepsOn settings goes before after talk server progress talk' server' =
    ((want : Want) × (mid : TalkState) × Wants before.clock after.clock talk want mid × IsOwnWant want
    × Does settings goes talk.served before after mid server want progress talk' server')
    ⊎ Stopped before after talk server progress talk' server'

-- ---- the work after it

-- the work after an answer was done, so many requests being answered; or memory ran out in it, which ends the session
abbrev pub WorksOn : Settings → Option ℕ → Going → ℕ → CallerSeen → AfterStep → CallerSeen → Type 0
WorksOn settings buckets goes served server Again server' =
    WorksBehind settings buckets goes server (Ok tt) server'
WorksOn settings buckets goes served server (End e) server' =
    (e ≡ end.Memory served) × ((fault : AllocError)
    × WorksBehind settings buckets goes server (Err fault) server')

-- after a step there is work exactly where it answered a request
abbrev pub WorksAfter : Settings → Option ℕ → Going → ℕ → TalkState → CallerSeen → AfterStep → AfterStep
    → CallerSeen
    → Type 0
WorksAfter settings buckets goes served talk server (End e) progress server' =
    (progress ≡ End e) × (server' ≡ server)
WorksAfter settings buckets goes served talk server Again progress server' =
    ((talk.served ≤ served) × (progress ≡ Again) × (server' ≡ server))
    ⊎ ((served < talk.served) × WorksOn settings buckets goes talk.served server progress server')

-- a step of a session, and the work after it
pub record StepsAndWorks (settings : Settings) (buckets : Option ℕ)
    (goes : CallerSeen → List Step → CallerSeen → Type 0) (before after : Outside) (talk : TalkState)
    (server : CallerSeen) (progress : AfterStep) (talk' : TalkState) (server' : CallerSeen) : Type 0 where
  pub stepped : AfterStep
  pub mid : CallerSeen
  pub step : StepsOn settings goes before after talk server stepped talk' mid
  pub work : WorksAfter settings buckets goes talk.served talk' mid stepped progress server'
