-- A request was answered: the work after the answer, done or not.
use Rattle.std.proofs.Common.{◌≡◌, ◌⊎◌, ℕ, ◌+◌, ◌≤◌, List, [], ◌∷◌, ◌++◌, false, Some, None, inl, inr, ◌∙◌, ap, subst, refl, append_assoc, arith}
use Rattle.bim_io.specs.StreamViews.{Outside, EndsEmpty, Exchanges}
use Rattle.http_frame.specs.declared.types.HttpRequest.{HttpRequest}
use Rattle.http_frame.specs.Events as frame
use Rattle.http_frame.specs.Framers.{Stands}
use Rattle.book_history.specs.Runs.{Step}
use Rattle.book_passes.specs.Lessons.{CallerSeen}
use Rattle.bim_session.specs.declared.end.SessionEnd.TheVariants as end
use Rattle.bim_session.specs.Works.{Printed, Works, WorksShort, last_turn}
use Rattle.bim_session.specs.Session.{Reads, AnswersEvent, Answered, requests}
use Rattle.bim_session.specs.Replay.{IsReadFault, IsWriteFault}
use Rattle.bim_session.specs.Talking.{TalkState}
use Rattle.bim_session.proofs.Sessions.{last_turn-append}
use Rattle.link_session.specs.Callers.{LearnsBy}
use Rattle.link_session.proofs.Kept.{Keeps}
use Rattle.link_session.proofs.SoFar.{Service, SoFar, Owes, Finishes, IsQuiet, start, stop_of}
use Rattle.link_session.proofs.Working.{works_behind, short_behind}
use Rattle.link_session.proofs.Growing.{open_of, so_far_push, leaving_behind}
use Rattle.link_session.proofs.Ending.{finish_step, no_fault, memory_own, memory_turned, ends_working}
use Rattle.link_session.proofs.Events.{stands, answered_learnt, event_learnt, keeps_learnt}

-- a request was answered by these bytes, where the caller had come to a state
pub record Replied (k : Service) (v : CallerSeen) (w a : Outside) (old new : TalkState) (server mid : CallerSeen) (so : SoFar k v w a old server) (asked bytes : List ℕ) : Type 0 where
  pub request : HttpRequest
  pub later : List ℕ
  pub own : List Step
  pub printed : Printed
  pub here : old.leaving ≡ None
  pub reads : Reads so.rest so.told (frame.request request ∷ []) later false
  pub stands_for : Stands new.framer later false
  pub answers : AnswersEvent (stands k v mid so.events so.steps so.printed) (frame.request request) asked bytes own printed
  pub known : k.goes v (so.steps ++ own) mid
  pub learnt : LearnsBy server mid
  pub few : printed.turn ≤ mid.last
  pub kept : Keeps k.settings mid.seen new.notes printed
  pub served : new.served ≡ old.served + 1
  pub waits : new.waits ≡ None
  pub ended : new.ended ≡ old.ended
  pub leaving : new.leaving ≡ leaving_behind old.served (frame.request request)

module _ (k : Service) (v : CallerSeen) (w a b : Outside) (old new : TalkState) (server mid : CallerSeen) (so : SoFar k v w a old server) (asked bytes : List ℕ)
    (x : Replied k v w a old new server mid so asked bytes) (gave : Exchanges a b [] asked bytes) (quiet : IsQuiet a b) (later : CallerSeen) (steps : List Step)
    (goes : k.goes mid steps later) where
  lesson : LearnsBy mid later
  lesson = k.laws.learns mid later steps goes

  -- the last turn of the session's steps, where buckets are worked
  in_step : (k.buckets ≡ Some 0) ⊎ (mid.last ≡ last_turn (last_turn v.last so.steps) x.own)
  in_step = of_kind (k.laws.in_step v mid (so.steps ++ x.own) x.known)
    where
      of_kind : (k.buckets ≡ Some 0) ⊎ (mid.last ≡ last_turn v.last (so.steps ++ x.own)) → (k.buckets ≡ Some 0) ⊎ (mid.last ≡ last_turn (last_turn v.last so.steps) x.own)
      of_kind (inl none) = inl none
      of_kind (inr last) = inr (last ∙ last_turn-append v.last so.steps x.own)

  answers_later : AnswersEvent (stands k v later so.events so.steps so.printed) (frame.request x.request) asked bytes x.own x.printed
  answers_later =
      let few = so.turns in
      let rises = x.learnt.1.rises in
      event_learnt k v mid later so.events so.steps so.printed (frame.request x.request) asked bytes x.own x.printed (omega (arith, few, rises)) lesson x.answers

  answered_later : Answered (start k v later) so.events so.asked so.out so.steps so.printed
  answered_later =
      let before = k.laws.learns v server so.steps so.known in
      let first : v.last ≤ server.last = before.1.rises in
      let rises = x.learnt.1.rises in
      answered_learnt k v mid later so.events so.asked so.out so.steps so.printed (omega (arith, first, rises)) lesson
      (answered_learnt k v server mid so.events so.asked so.out so.steps so.printed first x.learnt so.answered)

  known_later : k.goes v (so.steps ++ (x.own ++ steps)) later
  known_later = subst (λ (ss : List Step). k.goes v ss later) (append_assoc so.steps x.own steps) (k.laws.goes_on v mid later (so.steps ++ x.own) steps x.known goes)

  -- the work was done
  whole_behind : b.source.ended ≡ a.source.ended → Works (start k mid later) steps → SoFar k v w b new later
  whole_behind over works =
      so_far_push k v w a b old new server later so (frame.request x.request) x.later false asked bytes x.own steps x.printed x.here x.reads x.stands_for
      answers_later
      (works_behind (start k mid later) (last_turn (last_turn v.last so.steps) x.own) x.printed (0 + requests so.events + 1) steps in_step works)
      known_later answered_later
      (let few = x.few in let rises = lesson.1.rises in omega (arith, few, rises))
      (keeps_learnt k.settings mid later new.notes x.printed x.few lesson x.kept)
      gave quiet over x.served x.waits x.ended x.leaving

  -- memory ran out in the work
  short_of : WorksShort (start k mid later) steps → EndsEmpty b.source → Finishes k v later w b (end.Memory new.served)
  short_of works empty =
      let served : new.served ≡ (0 + requests so.events) + 1 = x.served ∙ ap (λ n. n + 1) so.served in
      let goes_open = open_of k v w a old server so x.here in
      finish_step k v w a b old server later so asked bytes (end.Memory new.served) (x.own ++ steps) x.here gave empty
      (no_fault a.source.faults b.source.faults (IsReadFault (end.Memory new.served)) quiet.0 (λ f. (memory_own new.served f.0).0 f.1))
      (no_fault a.sink.faults b.sink.faults (IsWriteFault (end.Memory new.served)) quiet.1 (λ f. (memory_own new.served f.0).1 f.1))
      known_later (λ n is. absurd (memory_turned new.served n is)) answered_later
      (ends_working (stop_of (start k v later) so.events so.steps so.printed b.source.ended so.rest so.told asked bytes (x.own ++ steps)) (end.Memory new.served)
      (record {
        request = x.request;
        later = x.later;
        own = x.own;
        work = steps;
        printed = x.printed;
        end_is = ap end.Memory served;
        open_ = goes_open.open_;
        reads = x.reads;
        answers = answers_later;
        steps_are = refl;
        short = short_behind (start k mid later) (last_turn (last_turn v.last so.steps) x.own) x.printed (0 + requests so.events + 1) steps in_step works;
      }))

-- a request was answered, and the work after the answer is still to be done
pub owed : (k : Service) (v : CallerSeen) (w a b : Outside) (old new : TalkState) (server mid : CallerSeen) (so : SoFar k v w a old server) (asked bytes : List ℕ)
    → Replied k v w a old new server mid so asked bytes → Exchanges a b [] asked bytes → IsQuiet a b → b.source.ended ≡ a.source.ended → Owes k v w b new mid
owed k v w a b old new server mid so asked bytes x gave quiet over = record {
  whole = λ later steps goes works. whole_behind k v w a b old new server mid so asked bytes x gave quiet later steps goes over works;
  short = λ later steps goes works empty. short_of k v w a b old new server mid so asked bytes x gave quiet later steps goes works empty;
}
