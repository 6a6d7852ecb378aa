-- What holds between two steps of a session.
use Rattle.std.specs.Prelude.{◌≡◌, ◌⊎◌, ◌<◌, ◌≤◌, ℕ, ◌+◌, ◌++◌, List, [], Bool, true, false, Option, Some, None, IsTrue}
use Rattle.bim_io.specs.StreamViews.{Outside, EndsEmpty, Exchanges}
use Rattle.http_frame.specs.Events.{Event}
use Rattle.http_frame.specs.Framers.{Stands}
use Rattle.book_history.specs.declared.limits.Settings.{Settings}
use Rattle.book_history.specs.Runs.{Step}
use Rattle.book_passes.specs.Lessons.{CallerSeen}
use Rattle.bim_session.specs.declared.end.SessionEnd.{SessionEnd}
use Rattle.bim_session.specs.declared.end.SessionEnd.TheVariants as end
use Rattle.bim_session.specs.Works.{Standing, Printed, Works, WorksShort}
use Rattle.bim_session.specs.Session.{Stop, Ends, Reads, Answered, IsBare, behind, is_closed, requests, most_requests}
use Rattle.bim_session.specs.Replay.{ReadsAsNeeded}
use Rattle.bim_session.specs.Talking.{TalkState}
use Rattle.link_session.specs.Callers.{CallerLaws, start_of}
use Rattle.link_session.specs.inner.Loop.{Going}
use Rattle.link_session.specs.CallerSessions.{Serves}
use Rattle.link_session.specs.declared.session.AfterStep.{AfterStep}
use Rattle.link_session.specs.declared.session.AfterStep.TheVariants.{Again, End}
use Rattle.link_session.proofs.Kept.{Keeps}

-- who calls the book: its settings, how many buckets it works after answers, how it goes on, and the laws of that
pub record Service : Type 1 where
  pub settings : Settings
  pub buckets : Option ℕ
  pub goes : Going
  pub laws : CallerLaws buckets goes

abbrev pub service_of : (settings : Settings) (buckets : Option ℕ) (goes : Going) → CallerLaws buckets goes → Service
service_of settings buckets goes laws = record { settings = settings; buckets = buckets; goes = goes; laws = laws }

-- where a session by the caller v begins, which ends as w
abbrev pub start : Service → CallerSeen → CallerSeen → Standing
start k v w = start_of k.settings k.buckets v w

-- the session ends so
abbrev pub Finishes : Service → CallerSeen → CallerSeen → Outside → Outside → SessionEnd → Type 0
Finishes k v w before after e = Serves k.settings k.buckets k.goes v w before after e

-- where a session stops that answered these events by these steps
abbrev pub stop_of : Standing → List Event → List Step → Printed → Bool → List ℕ → Bool → List ℕ → List ℕ → List Step → Stop
stop_of start events steps printed ended rest told late tail more = record {
  standing = behind start events steps printed;
  closed = is_closed start.served events;
  ended = ended;
  rest = rest;
  told = told;
  moments = late;
  bytes = tail;
  steps = more;
}

-- no read and no write has failed
abbrev pub IsQuiet : Outside → Outside → Type 0
IsQuiet old new = (new.source.faults ≡ old.source.faults) × (new.sink.faults ≡ old.sink.faults)

-- a session goes on
pub record GoesOn (stop : Stop) : Type 0 where
  pub open_ : stop.closed ≡ false
  pub room : stop.standing.served < most_requests
  pub bare : IsBare stop

-- a session goes on, or it ends so once all is written
abbrev pub LeavesBy : Stop → Option SessionEnd → Type 0
LeavesBy stop None = GoesOn stop
LeavesBy stop (Some e) = Ends stop e

-- a session by the caller v that has not ended yet, since the outside was as before
pub record SoFar (k : Service) (v : CallerSeen) (before now : Outside) (talk : TalkState) (server : CallerSeen) : Type 0 where
  pub input : List ℕ
  pub moments : List ℕ
  pub output : List ℕ
  pub events : List Event
  pub rest : List ℕ
  pub told : Bool
  pub asked : List ℕ
  pub late : List ℕ
  pub out : List ℕ
  pub tail : List ℕ
  pub steps : List Step
  pub printed : Printed
  pub exchanges : Exchanges before now input moments output
  pub quiet : IsQuiet before now
  pub moments_are : moments ≡ asked ++ late
  pub output_is : output ≡ out ++ tail
  pub reads : Reads input false events rest told
  pub as_needed : ReadsAsNeeded before.source.most input events
  pub known : k.goes v steps server
  pub answered : Answered (start k v server) events asked out steps printed
  pub turns : printed.turn ≤ server.last
  pub kept : Keeps k.settings server.seen talk.notes printed
  pub stands : Stands talk.framer rest told
  pub served : talk.served ≡ 0 + requests events
  pub idle : talk.waits ≡ None
  pub most : 0 + requests events ≤ most_requests
  pub ended_is : talk.ended ≡ true → IsTrue now.source.ended
  pub turned : (n : ℕ) → talk.leaving ≡ Some (end.SpentTurns n) → ⊥
  pub leaving : LeavesBy (stop_of (start k v server) events steps printed now.source.ended rest told late tail []) talk.leaving

-- a request was answered, and the work after the answer is still to be done
pub record Owes (k : Service) (v : CallerSeen) (before now : Outside) (talk : TalkState) (server : CallerSeen) : Type 0 where
  pub whole : (later : CallerSeen) (steps : List Step) → k.goes server steps later → Works (start k server later) steps → SoFar k v before now talk later
  pub short : (later : CallerSeen) (steps : List Step) → k.goes server steps later → WorksShort (start k server later) steps → EndsEmpty now.source
      → Finishes k v later before now (end.Memory talk.served)

-- where a session stands after one step of it, before which so many requests were answered
abbrev pub Goes : Service → CallerSeen → ℕ → Outside → Outside → AfterStep → TalkState → CallerSeen → Type 0
Goes k v served before now Again talk server =
    ((talk.served ≤ served) × SoFar k v before now talk server) ⊎ ((served < talk.served) × Owes k v before now talk server)
Goes k v served before now (End e) talk server = Finishes k v server before now e

-- the same after the work after the step
abbrev pub GoesBehind : Service → CallerSeen → Outside → Outside → AfterStep → TalkState → CallerSeen → Type 0
GoesBehind k v before now Again talk server = SoFar k v before now talk server
GoesBehind k v before now (End e) talk server = Finishes k v server before now e
