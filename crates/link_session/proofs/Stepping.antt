-- Where a session stands after one step.
use Rattle.std.proofs.Common.{◌≡◌, ◌⊎◌, ℕ, ◌+◌, ◌≤◌, List, [], ◌∷◌, ◌++◌, Bool, true, false, Option, Some, None, Result, Ok, Err, inl, inr, sym, ◌∙◌, ap, subst, refl, append-nil, arith}
use Rattle.bim_io.specs.StreamViews.{SourceSeen, SinkSeen, ClockSeen, Outside, EndsEmpty, SourceGives, SinkTakes, ClockGives, Exchanges}
use Rattle.bim_io.proofs.Calls.{gives_none, takes_none}
use Rattle.http_frame.specs.declared.types.HttpRequest.{HttpRequest}
use Rattle.http_frame.specs.declared.types.FrameFault.{FrameFault}
use Rattle.http_frame.specs.declared.framer.Framer.{Framer}
use Rattle.http_frame.specs.Events.{Event, IsRest, IsTold}
use Rattle.http_frame.specs.Events as frame
use Rattle.http_frame.specs.Framers.{Stands}
use Rattle.book_turn.specs.declared.call_fault.CallFault.{CallFault}
use Rattle.book_turn.specs.declared.call_fault.CallFault.TheVariants.{Memory, PassSpent}
use Rattle.book_turn.specs.declared.limits.TheConstants.{MOST_TURNS}
use Rattle.book_history.specs.declared.requests.BookCall.{BookCall}
use Rattle.book_history.specs.Runs.{Step}
use Rattle.book_passes.specs.Lessons.{CallerSeen}
use Rattle.book_passes.proofs.Learning.{learns_none}
use Rattle.bim_session.specs.declared.end.SessionEnd.{SessionEnd}
use Rattle.bim_session.specs.declared.end.SessionEnd.TheVariants as end
use Rattle.bim_session.specs.declared.notes.Notes.{Notes}
use Rattle.bim_session.specs.declared.want.Waiting.{Waiting}
use Rattle.bim_session.specs.declared.want.Want.{Want}
use Rattle.bim_session.specs.declared.want.Want.TheVariants.{More, Write, Call, Leave}
use Rattle.bim_session.specs.ShelfNotes.{project_read, AsksKept}
use Rattle.bim_session.specs.Works.{Printed}
use Rattle.odata_filter.specs.declared.listing.Listing.{Listing}
use Rattle.bim_session.specs.Session.{Stop, Reads, AnswersEvent, Ends, IsNext, Means, Lists, TakesUnanswered, TakesTurn, NeedsTurn, asking, closes_after, counted, requests}
use Rattle.bim_session.specs.Session as session
use Rattle.bim_session.specs.Replay.{IsReadFault, IsWriteFault}
use Rattle.bim_session.specs.Talking.{TalkState, BookReceipt, Wants, LacksNext, Continues, AnswersOne, AnswersFault, TakesRequest, MeetsEnd, IsOwnWant, AnswersAtOnce, AnswersCall, LeavesCall, with_answer, with_call, with_framer, with_notes, leaving_after, asks_change, waiting_for, waiting_alone}
use Rattle.link_session.specs.Callers.{LearnsBy, Calls, steps_of}
use Rattle.link_session.specs.inner.Loop.{Reading, StopsReading, Writing, Called, StopsAnswering, Does, StepsOn}
use Rattle.bim_io.specs.Writes.{WritesLess}
use Rattle.link_session.specs.declared.session.AfterStep.{AfterStep}
use Rattle.link_session.specs.declared.session.AfterStep.TheVariants.{Again, End}
use Rattle.link_session.proofs.Kept.{Keeps, unkept}
use Rattle.link_session.proofs.SoFar.{Service, SoFar, Owes, Goes, Finishes, IsQuiet, LeavesBy, start, stop_of}
use Rattle.link_session.proofs.Growing.{quiet_trans, exchanged, open_of, plain_moments, plain_output, leaving_behind, so_far_fed, so_far_push}
use Rattle.link_session.proofs.Events.{stands, once_answers, lacks_answers, turn_in, called_answers, CallAnswers, answered_learnt, keeps_learnt, last_of}
use Rattle.link_session.proofs.Owed.{Replied, owed}
use Rattle.link_session.proofs.Ending.{IsTurned, no_fault, one_fault, memory_own, memory_turned, own_end, ends_memory, ends_turns, finish_step, finish_same, finish_leaving, finish_met, finish_short, finish_unfed}

-- ---- what stayed as it was

same_source : (s s' : SourceSeen) → s' ≡ s → SourceGives s s' []
same_source s s' same = subst (λ (z : SourceSeen). SourceGives s z []) (sym same) (gives_none s)

same_sink : (x y : SinkSeen) → y ≡ x → SinkTakes x y []
same_sink x y same = subst (λ (z : SinkSeen). SinkTakes x z []) (sym same) (takes_none x)

exchange : (a b : Outside) (input moments output : List ℕ) → SourceGives a.source b.source input → ClockGives a.clock b.clock moments → SinkTakes a.sink b.sink output
    → Exchanges a b input moments output
exchange a b input moments output gave told took = record {
  gave = gave;
  told = told;
  took = took;
}

no_moments : (u v : ClockSeen) (moments : List ℕ) → moments ≡ [] → ClockGives u v moments → ClockGives u v []
no_moments u v moments none told = subst (λ (m : List ℕ). ClockGives u v m) none told

source_quiet : (s s' : SourceSeen) → s' ≡ s → s'.faults ≡ s.faults
source_quiet s s' same = ap (λ (z : SourceSeen). z.faults) same

sink_quiet : (x y : SinkSeen) → y ≡ x → y.faults ≡ x.faults
sink_quiet x y same = ap (λ (z : SinkSeen). z.faults) same

-- the outside moved on, but nothing was read, asked for or written
abbrev so_far_same : (k : Service) (v : CallerSeen) (w a b : Outside) (old : TalkState) (server : CallerSeen) (so : SoFar k v w a old server) → Exchanges a b [] [] [] → IsQuiet a b → b.source.ended ≡ a.source.ended
    → SoFar k v w b old server
so_far_same k v w a b old server so gave quiet over = record {
  input = so.input;
  moments = so.moments ++ [];
  output = so.output ++ [];
  events = so.events;
  rest = so.rest;
  told = so.told;
  asked = so.asked;
  late = so.late;
  out = so.out;
  tail = so.tail;
  steps = so.steps;
  printed = so.printed;
  exchanges = exchanged w a b so.input so.moments so.output [] [] so.exchanges gave;
  quiet = quiet_trans w a b so.quiet quiet;
  moments_are = append-nil so.moments ∙ so.moments_are;
  output_is = append-nil so.output ∙ so.output_is;
  reads = so.reads;
  as_needed = so.as_needed;
  known = so.known;
  answered = so.answered;
  turns = so.turns;
  kept = so.kept;
  stands = so.stands;
  served = so.served;
  idle = so.idle;
  most = so.most;
  ended_is = λ e. rw over (so.ended_is e);
  turned = so.turned;
  leaving = subst (λ (o : Bool). LeavesBy (stop_of (start k v server) so.events so.steps so.printed o so.rest so.told so.late so.tail []) old.leaving) (sym over) so.leaving;
}

-- ---- a read

read_no_write : (k n : ℕ) → end.ReadFault k ≡ end.WriteFault n → ⊥
read_no_write k n e = cc

write_no_read : (k n : ℕ) → end.WriteFault k ≡ end.ReadFault n → ⊥
write_no_read k n e = cc

fault_turned : (n : ℕ) → IsTurned (end.WriteFault n)
fault_turned n = λ k e. cc

read_turned : (n : ℕ) → IsTurned (end.ReadFault n)
read_turned n = λ k e. cc

-- after a read
goes_read : (k : Service) (v : CallerSeen) (w a b : Outside) (old mid new : TalkState) (server : CallerSeen) (result : AfterStep) → SoFar k v w a old server → Wants a.clock b.clock old More mid
    → Reading a.source b.source mid result new → b.sink ≡ a.sink → EndsEmpty b.source → Goes k v old.served w b result new server
goes_read k v w a b old mid new server Again so wants reading sink empty =
    let t = wants so.rest so.told so.stands in
    let x = t.2 in
    let number : new.served ≡ old.served = ap (λ (z : TalkState). z.served) reading.4.1 ∙ ap (λ (z : TalkState). z.served) x.5 in
    let gave : Exchanges a b reading.0 [] [] =
    exchange a b reading.0 [] [] reading.1 (no_moments a.clock b.clock t.0 x.4.0 t.1) (same_sink a.sink b.sink sink) in
    inl (omega (arith, number), so_far_fed k v w a b old mid new server so reading.0 x.0 x.2 x.3 x.4.1 x.5 reading.2 reading.4 gave (reading.3, sink_quiet a.sink b.sink sink) reading.5)
goes_read k v w a b old mid new server (End e) so wants reading sink empty = of_kind reading.3
  where
    of_kind : StopsReading a.source b.source mid.served reading.0 e → Finishes k v server w b e
    of_kind (inl failed) =
        let t = wants so.rest so.told so.stands in
        let x = t.2 in
        let number : mid.served ≡ old.served = ap (λ (z : TalkState). z.served) x.5 in
        let is : e ≡ end.ReadFault old.served = failed.0 ∙ ap end.ReadFault number in
        let gives : SourceGives a.source b.source [] = subst (λ (p : List ℕ). SourceGives a.source b.source p) failed.1 reading.1 in
        let gave : Exchanges a b [] [] [] = exchange a b [] [] [] gives (no_moments a.clock b.clock t.0 x.4.0 t.1) (same_sink a.sink b.sink sink) in
        let goes = open_of k v w a old server so x.0 in
        let whole : Finishes k v server w b (end.ReadFault old.served) =
        finish_same k v w a b old server so [] [] (end.ReadFault old.served) x.0 gave empty
        (one_fault a.source.faults b.source.faults (IsReadFault (end.ReadFault old.served)) failed.2 (old.served, refl))
        (no_fault a.sink.faults b.sink.faults (IsWriteFault (end.ReadFault old.served)) (sink_quiet a.sink b.sink sink) (λ f. read_no_write old.served f.0 f.1))
        (read_turned old.served)
        (inr (inr (inr (inl (ap end.ReadFault so.served, goes.open_, (refl, refl, refl), x.2, x.3))))) in
        subst (λ (z : SessionEnd). Finishes k v server w b z) (sym is) whole
    of_kind (inr memory) =
        let t = wants so.rest so.told so.stands in
        let x = t.2 in
        let number : mid.served ≡ old.served = ap (λ (z : TalkState). z.served) x.5 in
        let is : e ≡ end.Memory old.served = memory.0 ∙ ap end.Memory number in
        let gave : Exchanges a b reading.0 [] [] =
        exchange a b reading.0 [] [] reading.1 (no_moments a.clock b.clock t.0 x.4.0 t.1) (same_sink a.sink b.sink sink) in
        let whole : Finishes k v server w b (end.Memory old.served) =
        finish_unfed k v w a b old server so reading.0 x.0 x.2 x.3 reading.2 gave (memory.1, sink_quiet a.sink b.sink sink) empty in
        subst (λ (z : SessionEnd). Finishes k v server w b z) (sym is) whole

-- ---- what a talk writes by itself

-- the answer to an event, which took no step
pub record Alone (k : Service) (v : CallerSeen) (w a : Outside) (old mid : TalkState) (server : CallerSeen) (so : SoFar k v w a old server) (moments bytes : List ℕ) : Type 0 where
  pub event : Event
  pub later : List ℕ
  pub mark : Bool
  pub reads : Reads so.rest so.told (event ∷ []) later mark
  pub stands_for : Stands mid.framer later mark
  pub answers : AnswersEvent (stands k v server so.events so.steps so.printed) event moments bytes [] so.printed
  pub served : mid.served ≡ old.served + counted event
  pub waits : mid.waits ≡ None
  pub ended : mid.ended ≡ old.ended
  pub leaving : mid.leaving ≡ leaving_behind old.served event

alone_continue : (k : Service) (v : CallerSeen) (w a : Outside) (old mid : TalkState) (server : CallerSeen) (so : SoFar k v w a old server) (moments bytes : List ℕ) → old.leaving ≡ None
    → Continues so.rest so.told moments old bytes mid → Alone k v w a old mid server so moments bytes
alone_continue k v w a old mid server so moments bytes here x = record {
  event = frame.continue;
  later = so.rest;
  mark = true;
  reads = (x.0, x.1, (refl, refl));
  stands_for = x.3.1;
  answers = (x.3.0, x.2, refl, refl);
  served = ap (λ (z : TalkState). z.served) x.4 ∙ (let e : old.served ≡ old.served + 0 = omega arith in e);
  waits = ap (λ (z : TalkState). z.waits) x.4 ∙ so.idle;
  ended = ap (λ (z : TalkState). z.ended) x.4;
  leaving = ap (λ (z : TalkState). z.leaving) x.4 ∙ here;
}

-- the answer to a request without a turn
once : (k : Service) (v : CallerSeen) (w a : Outside) (old mid : TalkState) (server : CallerSeen) (so : SoFar k v w a old server) (moments bytes : List ℕ)
    (x : AnswersOne so.rest so.told moments old bytes mid) → AnswersEvent (stands k v server so.events so.steps so.printed) (frame.request x.0.request) moments bytes [] so.printed
once k v w a old mid server so moments bytes x = (
  x.0.moment,
  x.0.one,
  once_answers (stands k v server so.events so.steps so.printed) x.0.moment x.0.request old.notes bytes so.kept
      (subst (λ (n : ℕ). AnswersAtOnce x.0.moment x.0.request old.notes (waiting_alone x.0.request (n + 1)) bytes) so.served x.1),
)

alone_request : (k : Service) (v : CallerSeen) (w a : Outside) (old mid : TalkState) (server : CallerSeen) (so : SoFar k v w a old server) (moments bytes : List ℕ)
    → AnswersOne so.rest so.told moments old bytes mid → Alone k v w a old mid server so moments bytes
alone_request k v w a old mid server so moments bytes x = record {
  event = frame.request x.0.request;
  later = x.0.later;
  mark = false;
  reads = (x.0.settled, (x.0.later, x.0.next, (refl, refl)));
  stands_for = x.0.stands;
  answers = once k v w a old mid server so moments bytes x;
  served = ap (λ (z : TalkState). z.served) x.2;
  waits = ap (λ (z : TalkState). z.waits) x.2;
  ended = ap (λ (z : TalkState). z.ended) x.2;
  leaving = ap (λ (z : TalkState). z.leaving) x.2;
}

-- the answer to a Continue was written whole
wrote_continue : (k : Service) (v : CallerSeen) (w a b : Outside) (old mid : TalkState) (server : CallerSeen) (so : SoFar k v w a old server) (moments bytes : List ℕ) → old.leaving ≡ None
    → Continues so.rest so.told moments old bytes mid → Exchanges a b [] moments bytes → IsQuiet a b → b.source.ended ≡ a.source.ended → SoFar k v w b mid server
wrote_continue k v w a b old mid server so moments bytes here x gave quiet over =
    let same : so.steps ++ [] ≡ so.steps = append-nil so.steps in
    so_far_push k v w a b old mid server server so frame.continue so.rest true moments bytes [] [] so.printed here (x.0, x.1, (refl, refl)) x.3.1
    (x.3.0, x.2, refl, refl) refl
    (rw same so.known) so.answered so.turns (subst (λ (n : Notes). Keeps k.settings server.seen n so.printed) (sym (ap (λ (z : TalkState). z.notes) x.4)) so.kept)
    gave quiet over (ap (λ (z : TalkState). z.served) x.4 ∙ (let e : old.served ≡ old.served + 0 = omega arith in e)) (ap (λ (z : TalkState). z.waits) x.4 ∙ so.idle)
    (ap (λ (z : TalkState). z.ended) x.4) (ap (λ (z : TalkState). z.leaving) x.4 ∙ here)

-- what was seen is seen
learnt_none : (k : Service) (v : CallerSeen) (w a : Outside) (old : TalkState) (server : CallerSeen) → SoFar k v w a old server → LearnsBy server server
learnt_none k v w a old server so = ([], learns_none server)

-- the answer to a request that takes no turn
replied_alone : (k : Service) (v : CallerSeen) (w a : Outside) (old mid : TalkState) (server : CallerSeen) (so : SoFar k v w a old server) (moments bytes : List ℕ) → old.leaving ≡ None
    → AnswersOne so.rest so.told moments old bytes mid → Replied k v w a old mid server server so moments bytes
replied_alone k v w a old mid server so moments bytes here x =
    let same : so.steps ++ [] ≡ so.steps = append-nil so.steps in
    record {
      request = x.0.request;
      later = x.0.later;
      own = [];
      printed = so.printed;
      here = here;
      reads = (x.0.settled, (x.0.later, x.0.next, (refl, refl)));
      stands_for = x.0.stands;
      answers = once k v w a old mid server so moments bytes x;
      known = rw same so.known;
      learnt = learnt_none k v w a old server so;
      few = so.turns;
      kept = subst (λ (n : Notes). Keeps k.settings server.seen n so.printed) (sym (ap (λ (z : TalkState). z.notes) x.2)) so.kept;
      served = ap (λ (z : TalkState). z.served) x.2;
      waits = ap (λ (z : TalkState). z.waits) x.2;
      ended = ap (λ (z : TalkState). z.ended) x.2;
      leaving = ap (λ (z : TalkState). z.leaving) x.2;
    }

-- the stop where this was asked for and written after the answers
abbrev stop_at : (k : Service) (v : CallerSeen) (w a b : Outside) (old : TalkState) (server : CallerSeen) → SoFar k v w a old server → List ℕ → List ℕ → Stop
stop_at k v w a b old server so moments tail = stop_of (start k v server) so.events so.steps so.printed b.source.ended so.rest so.told moments tail []

fault_is : (k : Service) (v : CallerSeen) (w a b : Outside) (old mid : TalkState) (server : CallerSeen) (so : SoFar k v w a old server) (moments tail bytes : List ℕ)
    → (x : AnswersFault so.rest so.told moments old bytes mid) → session.AnswersFault (stop_at k v w a b old server so moments tail) x.0 bytes
fault_is k v w a b old mid server so moments tail bytes x = (x.2, x.3, x.1.0, refl)

frame_turned : (n : ℕ) (fault : FrameFault) (k : ℕ) → Some (end.Frame n fault) ≡ Some (end.SpentTurns k) → ⊥
frame_turned n fault k e = cc

-- a fault's response was written whole
wrote_fault : (k : Service) (v : CallerSeen) (w a b : Outside) (old mid : TalkState) (server : CallerSeen) (so : SoFar k v w a old server) (moments bytes : List ℕ) → old.leaving ≡ None
    → AnswersFault so.rest so.told moments old bytes mid → Exchanges a b [] moments bytes → IsQuiet a b → b.source.ended ≡ a.source.ended → SoFar k v w b mid server
wrote_fault k v w a b old mid server so moments bytes here x gave quiet over =
    let goes = open_of k v w a old server so here in
    let stop : Stop = stop_at k v w a b old server so moments bytes in
    let ends : Ends stop (end.Frame old.served x.0) =
    inr (inr (inr (inr (inr (inl (x.0, ap (λ (n : ℕ). end.Frame n x.0) so.served, goes.open_, fault_is k v w a b old mid server so moments bytes bytes x)))))) in
    record {
      input = so.input;
      moments = so.moments ++ moments;
      output = so.output ++ bytes;
      events = so.events;
      rest = so.rest;
      told = so.told;
      asked = so.asked;
      late = moments;
      out = so.out;
      tail = bytes;
      steps = so.steps;
      printed = so.printed;
      exchanges = exchanged w a b so.input so.moments so.output moments bytes so.exchanges gave;
      quiet = quiet_trans w a b so.quiet quiet;
      moments_are = ap (λ l. l ++ moments) (plain_moments k v w a old server so here);
      output_is = ap (λ o. o ++ bytes) (plain_output k v w a old server so here);
      reads = so.reads;
      as_needed = so.as_needed;
      known = so.known;
      answered = so.answered;
      turns = so.turns;
      kept = subst (λ (n : Notes). Keeps k.settings server.seen n so.printed) (sym (ap (λ (z : TalkState). z.notes) x.4)) so.kept;
      stands = x.1.1;
      served = ap (λ (z : TalkState). z.served) x.4 ∙ so.served;
      idle = ap (λ (z : TalkState). z.waits) x.4 ∙ so.idle;
      most = so.most;
      ended_is = λ e. rw over (so.ended_is (sym (ap (λ (z : TalkState). z.ended) x.4) ∙ e));
      turned = λ n e. frame_turned old.served x.0 n (sym (ap (λ (z : TalkState). z.leaving) x.4) ∙ e);
      leaving = subst (λ (o : Option SessionEnd). LeavesBy stop o) (sym (ap (λ (z : TalkState). z.leaving) x.4)) ends;
    }

-- a front of what comes next was written
wrote_part : (k : Service) (v : CallerSeen) (w a b : Outside) (old : TalkState) (server : CallerSeen) (so : SoFar k v w a old server) (moments bytes : List ℕ) → old.leaving ≡ None
    → ClockGives a.clock b.clock moments → b.source ≡ a.source → (front : WritesLess a.sink b.sink bytes) → EndsEmpty b.source
    → IsNext (stop_at k v w a b old server so moments front.0) bytes → Finishes k v server w b (end.WriteFault old.served)
wrote_part k v w a b old server so moments bytes here told source front empty next =
    let goes = open_of k v w a old server so here in
    finish_same k v w a b old server so moments front.0 (end.WriteFault old.served) here
    (exchange a b [] moments front.0 (same_source a.source b.source source) told front.4) empty
    (no_fault a.source.faults b.source.faults (IsReadFault (end.WriteFault old.served)) (source_quiet a.source b.source source) (λ f. write_no_read old.served f.0 f.1))
    (one_fault a.sink.faults b.sink.faults (IsWriteFault (end.WriteFault old.served)) front.5 (old.served, refl))
    (fault_turned old.served)
    (inr (inr (inr (inr (inl (
      ap end.WriteFault so.served,
      goes.open_,
      (front.1, front.3, subst (λ (p : List ℕ). IsNext (stop_at k v w a b old server so moments front.0) p) front.2 next),
    ))))))

next_alone : (k : Service) (v : CallerSeen) (w a b : Outside) (old mid : TalkState) (server : CallerSeen) (so : SoFar k v w a old server) (moments tail bytes : List ℕ)
    → Alone k v w a old mid server so moments bytes → IsNext (stop_at k v w a b old server so moments tail) bytes
next_alone k v w a b old mid server so moments tail bytes x = inl (x.event, x.later, x.mark, x.reads, (so.printed, x.answers))

-- after what a talk wrote by itself
goes_write : (k : Service) (v : CallerSeen) (w a b : Outside) (old mid new : TalkState) (server : CallerSeen) (bytes : List ℕ) (result : AfterStep) → SoFar k v w a old server
    → Wants a.clock b.clock old (Write bytes) mid → Writing old.served a.sink b.sink bytes result → b.source ≡ a.source → new ≡ mid → EndsEmpty b.source
    → Goes k v old.served w b result new server
goes_write k v w a b old mid new server bytes Again so wants writing source same empty =
    let t = wants so.rest so.told so.stands in
    subst (λ (z : TalkState). Goes k v old.served w b Again z server) (sym same) (of_kind t.0 t.1 t.2.0 t.2.1)
  where
    over : b.source.ended ≡ a.source.ended
    over = ap (λ (z : SourceSeen). z.ended) source

    of_kind : (moments : List ℕ) → ClockGives a.clock b.clock moments → old.leaving ≡ None
        → Continues so.rest so.told moments old bytes mid
        ⊎ (AnswersOne so.rest so.told moments old bytes mid ⊎ AnswersFault so.rest so.told moments old bytes mid) → Goes k v old.served w b Again mid server
    of_kind moments told here (inl x) =
        let number : mid.served ≡ old.served = ap (λ (z : TalkState). z.served) x.4 in
        inl (
          omega (arith, number),
          wrote_continue k v w a b old mid server so moments bytes here x
              (exchange a b [] moments bytes (same_source a.source b.source source) told writing.0) (source_quiet a.source b.source source, writing.1) over,
        )
    of_kind moments told here (inr (inl x)) =
        let number : mid.served ≡ old.served + 1 = ap (λ (z : TalkState). z.served) x.2 in
        inr (
          omega (arith, number),
          owed k v w a b old mid server server so moments bytes (replied_alone k v w a old mid server so moments bytes here x)
              (exchange a b [] moments bytes (same_source a.source b.source source) told writing.0) (source_quiet a.source b.source source, writing.1) over,
        )
    of_kind moments told here (inr (inr x)) =
        let number : mid.served ≡ old.served = ap (λ (z : TalkState). z.served) x.4 in
        inl (
          omega (arith, number),
          wrote_fault k v w a b old mid server so moments bytes here x
              (exchange a b [] moments bytes (same_source a.source b.source source) told writing.0) (source_quiet a.source b.source source, writing.1) over,
        )
goes_write k v w a b old mid new server bytes (End e) so wants writing source same empty =
    let t = wants so.rest so.told so.stands in
    subst (λ (z : SessionEnd). Finishes k v server w b z) (sym writing.0)
    (wrote_part k v w a b old server so t.0 bytes t.2.0 t.1 source writing.1 empty (of_kind t.0 t.2.0 t.2.1))
  where
    of_kind : (moments : List ℕ) → old.leaving ≡ None
        → Continues so.rest so.told moments old bytes mid
        ⊎ (AnswersOne so.rest so.told moments old bytes mid ⊎ AnswersFault so.rest so.told moments old bytes mid)
        → IsNext (stop_at k v w a b old server so moments writing.1.0) bytes
    of_kind moments here (inl x) = next_alone k v w a b old mid server so moments writing.1.0 bytes (alone_continue k v w a old mid server so moments bytes here x)
    of_kind moments here (inr (inl x)) = next_alone k v w a b old mid server so moments writing.1.0 bytes (alone_request k v w a old mid server so moments bytes x)
    of_kind moments here (inr (inr x)) = inr (x.0, fault_is k v w a b old mid server so moments writing.1.0 bytes x)

-- ---- the end, and out of memory

-- after the end of a talk
goes_leave : (k : Service) (v : CallerSeen) (w a b : Outside) (old mid : TalkState) (server : CallerSeen) (e : SessionEnd) → SoFar k v w a old server → Wants a.clock b.clock old (Leave e) mid
    → IsOwnWant (Leave e) → b.source ≡ a.source → b.sink ≡ a.sink → EndsEmpty b.source → Finishes k v server w b e
goes_leave k v w a b old mid server e so wants own source sink empty =
    let t = wants so.rest so.told so.stands in
    let gave : Exchanges a b [] [] [] =
    exchange a b [] [] [] (same_source a.source b.source source) (no_moments a.clock b.clock t.0 t.2.0 t.1) (same_sink a.sink b.sink sink) in
    of_kind gave t.2.1
  where
    of_kind : Exchanges a b [] [] []
        → (old.leaving ≡ Some e)
        ⊎ ((old.leaving ≡ None) × (old.ended ≡ true) × IsTold so.told so.rest × IsRest so.rest × MeetsEnd so.rest old.served e) → Finishes k v server w b e
    of_kind gave (inl leaving) =
        finish_leaving k v w b old server
        (so_far_same k v w a b old server so gave (source_quiet a.source b.source source, sink_quiet a.sink b.sink sink) (ap (λ (z : SourceSeen). z.ended) source)) e leaving
        (own_end e own) empty
    of_kind gave (inr met) =
        finish_met k v w b old server
        (so_far_same k v w a b old server so gave (source_quiet a.source b.source source, sink_quiet a.sink b.sink sink) (ap (λ (z : SourceSeen). z.ended) source)) e met.0 met.1
        met.2 met.3 met.4 empty

-- after out of memory for what comes next
goes_lacks : (k : Service) (v : CallerSeen) (w a b : Outside) (old new : TalkState) (server : CallerSeen) → SoFar k v w a old server → LacksNext a.clock b.clock old new
    → b.source ≡ a.source → b.sink ≡ a.sink → EndsEmpty b.source → Finishes k v server w b (end.Memory old.served)
goes_lacks k v w a b old new server so lacks source sink empty =
    let t = lacks so.rest so.told so.stands in
    finish_short k v w a b old new server so t.0 t.2.0 t.2.1 (exchange a b [] t.0 [] (same_source a.source b.source source) t.1 (same_sink a.sink b.sink sink))
    (source_quiet a.source b.source source, sink_quiet a.sink b.sink sink) empty

-- ---- a call

-- what the response needs that waits for a call of this request
abbrev waiting_at : HttpRequest → ℕ → BookCall → Option Listing → Waiting
waiting_at r n call listing = waiting_for r n (asks_change call.request) (project_read call.request) listing

-- a request was taken, which means the call, and asks for nothing that is kept
pub record Asks (k : Service) (v : CallerSeen) (w a b : Outside) (old mid : TalkState) (server : CallerSeen) (so : SoFar k v w a old server) (call : BookCall) (waiting : Waiting) : Type 0 where
  pub moments : List ℕ
  pub here : old.leaving ≡ None
  pub told : ClockGives a.clock b.clock moments
  pub one : TakesRequest so.rest so.told moments mid.framer
  pub means : Means one.moment one.request call
  pub asks_none : ¬ (AsksKept old.notes call)
  pub listing : Option Listing
  pub lists : Lists one.moment one.request listing
  pub state : mid ≡ with_call (waiting_at one.request (old.served + 1) call listing) (with_framer mid.framer old)
  pub waiting_is : waiting ≡ waiting_at one.request (0 + requests so.events + 1) call listing

same_waiting : (o : Option Waiting) (x y : Waiting) → o ≡ Some x → o ≡ Some y → y ≡ x
same_waiting o x y e d = cc

asks_of : (k : Service) (v : CallerSeen) (w a b : Outside) (old mid : TalkState) (server : CallerSeen) (so : SoFar k v w a old server) (call : BookCall) (waiting : Waiting)
    → Wants a.clock b.clock old (Call call) mid → mid.waits ≡ Some waiting → Asks k v w a b old mid server so call waiting
asks_of k v w a b old mid server so call waiting wants waits =
    let t = wants so.rest so.told so.stands in
    let x = t.2.1 in
    record {
      moments = t.0;
      here = t.2.0;
      told = t.1;
      one = x.0;
      means = x.1;
      asks_none = x.2;
      listing = x.3.0;
      lists = x.3.1;
      state = x.3.2;
      waiting_is = same_waiting mid.waits (waiting_at x.0.request (old.served + 1) call x.3.0) waiting (ap (λ (z : TalkState). z.waits) x.3.2) waits
          ∙ ap (λ (n : ℕ). waiting_at x.0.request (n + 1) call x.3.0) so.served;
    }

module _ (k : Service) (v : CallerSeen) (w a b : Outside) (old mid : TalkState) (server server' : CallerSeen) (so : SoFar k v w a old server) (call : BookCall) (waiting : Waiting)
    (x : Asks k v w a b old mid server so call waiting) where
  mid_served : mid.served ≡ old.served
  mid_served = ap (λ (z : TalkState). z.served) x.state

  mid_notes : mid.notes ≡ old.notes
  mid_notes = ap (λ (z : TalkState). z.notes) x.state

  -- the request is read
  reads_one : Reads so.rest so.told (frame.request x.one.request ∷ []) x.one.later false
  reads_one = (x.one.settled, (x.one.later, x.one.next, (refl, refl)))

  -- what the response is, by what the talk shows
  response_of : (receipt : Result BookReceipt CallFault) (bytes : List ℕ) (later : Notes) → AnswersCall receipt waiting mid.notes bytes later
      → AnswersCall receipt (waiting_at x.one.request (0 + requests so.events + 1) call x.listing) old.notes bytes later
  response_of receipt bytes later answers =
      subst (λ (n : Notes). AnswersCall receipt (waiting_at x.one.request (0 + requests so.events + 1) call x.listing) n bytes later) mid_notes
      (subst (λ (z : Waiting). AnswersCall receipt z mid.notes bytes later) x.waiting_is answers)

  -- what is known once the call was made
  module _ (receipt : Result BookReceipt CallFault) (goes : k.goes server (steps_of call server receipt) server') where
    learnt : LearnsBy server server'
    learnt = k.laws.learns server server' (steps_of call server receipt) goes

    known_then : k.goes v (so.steps ++ steps_of call server receipt) server'
    known_then = k.laws.goes_on v server server' so.steps (steps_of call server receipt) so.known goes

    answered_then : session.Answered (start k v server') so.events so.asked so.out so.steps so.printed
    answered_then =
        let before = k.laws.learns v server so.steps so.known in
        answered_learnt k v server server' so.events so.asked so.out so.steps so.printed before.1.rises learnt so.answered

    few_then : so.printed.turn ≤ server'.last
    few_then = let few = so.turns in let rises = learnt.1.rises in omega (arith, few, rises)

    kept_then : Keeps k.settings server'.seen old.notes so.printed
    kept_then = keeps_learnt k.settings server server' old.notes so.printed so.turns learnt so.kept

    -- the talk was answered
    module _ (new : TalkState) (new_is : new ≡ with_notes new.notes (with_answer waiting.close mid)) where
      leaves_then : new.leaving ≡ leaving_behind old.served (frame.request x.one.request)
      leaves_then =
          ap (λ (z : TalkState). z.leaving) new_is
          ∙ ap (λ (n : ℕ). leaving_after (n + 1) waiting.close) mid_served
          ∙ ap (λ (z : Waiting). leaving_after (old.served + 1) z.close) x.waiting_is
          ∙ ap (λ (n : ℕ). leaving_after (old.served + 1) (closes_after x.one.request (n + 1))) (sym so.served)

      -- by an answer and what is printed then
      replied : (bytes : List ℕ) (last : Printed) → last.turn ≤ server'.last → Keeps k.settings server'.seen new.notes last
          → session.Answers (asking (stands k v server' so.events so.steps so.printed) x.one.moment x.one.request) bytes (steps_of call server receipt) last
          → Replied k v w a old new server server' so x.moments bytes
      replied bytes last few kept answers = record {
        request = x.one.request;
        later = x.one.later;
        own = steps_of call server receipt;
        printed = last;
        here = x.here;
        reads = reads_one;
        stands_for = subst (λ (g : Framer). Stands g x.one.later false) (sym (ap (λ (z : TalkState). z.framer) new_is)) x.one.stands;
        answers = (x.one.moment, x.one.one, answers);
        known = known_then;
        learnt = learnt;
        few = few;
        kept = kept;
        served = ap (λ (z : TalkState). z.served) new_is ∙ ap (λ n. n + 1) mid_served;
        waits = ap (λ (z : TalkState). z.waits) new_is;
        ended = ap (λ (z : TalkState). z.ended) new_is ∙ ap (λ (z : TalkState). z.ended) x.state;
        leaving = leaves_then;
      }

-- the answer to a call in its turn
answer_of : (k : Service) (v : CallerSeen) (w a b : Outside) (old mid : TalkState) (server server' : CallerSeen) (so : SoFar k v w a old server) (call : BookCall) (waiting : Waiting)
    (x : Asks k v w a b old mid server so call waiting) (receipt : BookReceipt) (bytes : List ℕ) (later : Notes) → Calls k.settings call server (Ok receipt) server'
    → AnswersCall (Ok receipt) waiting mid.notes bytes later
    → CallAnswers k v server server' so.events so.steps so.printed x.one.moment x.one.request call receipt.turn bytes later
answer_of k v w a b old mid server server' so call waiting x receipt bytes later calls answers =
    called_answers k v server server' so.events so.steps so.printed x.one.moment x.one.request call receipt old.notes x.means x.listing x.lists x.asks_none calls (last_of k v w a old server so)
    so.turns so.kept bytes later (response_of k v w a b old mid server server' so call waiting x (Ok receipt) bytes later answers)

-- the answer to a call, in its turn or in none
replied_called : (k : Service) (v : CallerSeen) (w a b : Outside) (old mid new : TalkState) (server server' : CallerSeen) (so : SoFar k v w a old server) (call : BookCall) (waiting : Waiting)
    (x : Asks k v w a b old mid server so call waiting) (receipt : Result BookReceipt CallFault) (bytes : List ℕ) → Calls k.settings call server receipt server'
    → k.goes server (steps_of call server receipt) server' → AnswersCall receipt waiting mid.notes bytes new.notes → new ≡ with_notes new.notes (with_answer waiting.close mid)
    → Replied k v w a old new server server' so x.moments bytes
replied_called k v w a b old mid new server server' so call waiting x (Ok receipt) bytes calls goes answers new_is =
    let y = answer_of k v w a b old mid server server' so call waiting x receipt bytes new.notes calls answers in
    replied k v w a b old mid server server' so call waiting x (Ok receipt) goes new new_is bytes y.last y.few y.keeps y.answers
replied_called k v w a b old mid new server server' so call waiting x (Err Memory) bytes calls goes answers new_is =
    let y = response_of k v w a b old mid server server' so call waiting x (Err Memory) bytes new.notes answers in
    replied k v w a b old mid server server' so call waiting x (Err Memory) goes new new_is bytes so.printed
    (few_then k v w a b old mid server server' so call waiting x (Err Memory) goes)
    (subst (λ (n : Notes). Keeps k.settings server'.seen n so.printed) (sym y.1) (kept_then k v w a b old mid server server' so call waiting x (Err Memory) goes))
    (lacks_answers (stands k v server' so.events so.steps so.printed) x.one.moment x.one.request bytes y.0)
replied_called k v w a b old mid new server server' so call waiting x (Err (PassSpent pass)) bytes calls goes answers new_is = absurd answers

-- the answer to a call was written whole
wrote_called : (k : Service) (v : CallerSeen) (w a b : Outside) (old mid new : TalkState) (server server' : CallerSeen) (so : SoFar k v w a old server) (call : BookCall) (waiting : Waiting)
    (x : Asks k v w a b old mid server so call waiting) (receipt : Result BookReceipt CallFault) (bytes : List ℕ) → Calls k.settings call server receipt server'
    → k.goes server (steps_of call server receipt) server' → AnswersCall receipt waiting mid.notes bytes new.notes → new ≡ with_notes new.notes (with_answer waiting.close mid)
    → SinkTakes a.sink b.sink bytes → b.sink.faults ≡ a.sink.faults → b.source ≡ a.source → Owes k v w b new server'
wrote_called k v w a b old mid new server server' so call waiting x receipt bytes calls goes answers new_is took quiet source =
    owed k v w a b old new server server' so x.moments bytes (replied_called k v w a b old mid new server server' so call waiting x receipt bytes calls goes answers new_is)
    (exchange a b [] x.moments bytes (same_source a.source b.source source) x.told took) (source_quiet a.source b.source source, quiet)
    (ap (λ (z : SourceSeen). z.ended) source)

-- ---- a call that ends the session

-- where it stops, after the answers
abbrev stop_called : (k : Service) (v : CallerSeen) (w a b : Outside) (old mid : TalkState) (server server' : CallerSeen) (so : SoFar k v w a old server) (call : BookCall) (waiting : Waiting)
    → Asks k v w a b old mid server so call waiting → List ℕ → List Step → Stop
stop_called k v w a b old mid server server' so call waiting x tail more =
    stop_of (start k v server') so.events so.steps so.printed b.source.ended so.rest so.told x.moments tail more

-- no response was written
ends_called : (k : Service) (v : CallerSeen) (w a b : Outside) (old mid : TalkState) (server server' : CallerSeen) (so : SoFar k v w a old server) (call : BookCall) (waiting : Waiting)
    (x : Asks k v w a b old mid server so call waiting) (receipt : Result BookReceipt CallFault) (e : SessionEnd) → k.goes server (steps_of call server receipt) server'
    → b.source ≡ a.source → b.sink ≡ a.sink → EndsEmpty b.source → (IsReadFault e → ⊥) → (IsWriteFault e → ⊥) → ((n : ℕ) → e ≡ end.SpentTurns n → server'.made ≡ MOST_TURNS)
    → Ends (stop_called k v w a b old mid server server' so call waiting x [] (steps_of call server receipt)) e → Finishes k v server' w b e
ends_called k v w a b old mid server server' so call waiting x receipt e goes source sink empty no_read no_write turned ends =
    finish_step k v w a b old server server' so x.moments [] e (steps_of call server receipt) x.here
    (exchange a b [] x.moments [] (same_source a.source b.source source) x.told (same_sink a.sink b.sink sink)) empty
    (no_fault a.source.faults b.source.faults (IsReadFault e) (source_quiet a.source b.source source) no_read)
    (no_fault a.sink.faults b.sink.faults (IsWriteFault e) (sink_quiet a.sink b.sink sink) no_write)
    (known_then k v w a b old mid server server' so call waiting x receipt goes) turned
    (answered_then k v w a b old mid server server' so call waiting x receipt goes) ends

-- memory ran out, and the request may have taken a turn
lacked_called : (k : Service) (v : CallerSeen) (w a b : Outside) (old mid : TalkState) (server server' : CallerSeen) (so : SoFar k v w a old server) (call : BookCall) (waiting : Waiting)
    (x : Asks k v w a b old mid server so call waiting) (receipt : Result BookReceipt CallFault) → k.goes server (steps_of call server receipt) server'
    → b.source ≡ a.source → b.sink ≡ a.sink → EndsEmpty b.source
    → (let more : List Step = steps_of call server receipt in
    (more ≡ []) ⊎ TakesTurn (asking (stands k v server' so.events so.steps so.printed) x.one.moment x.one.request) more)
    → Finishes k v server' w b (end.Memory old.served)
lacked_called k v w a b old mid server server' so call waiting x receipt goes source sink empty taken =
    let open_ = open_of k v w a old server so x.here in
    ends_called k v w a b old mid server server' so call waiting x receipt (end.Memory old.served) goes source sink empty
    (λ f. (memory_own old.served f.0).0 f.1) (λ f. (memory_own old.served f.0).1 f.1) (λ n is. absurd (memory_turned old.served n is))
    (ends_memory (stop_called k v w a b old mid server server' so call waiting x [] (steps_of call server receipt)) (end.Memory old.served) (
      ap end.Memory so.served,
      open_.open_,
      refl,
      inr (record {
        moment = x.one.moment;
        request = x.one.request;
        later = x.one.later;
        one = x.one.one;
        told = x.one.settled;
        next = x.one.next;
        taken = taken;
      }),
    ))

-- no turn was left
spent_called : (k : Service) (v : CallerSeen) (w a b : Outside) (old mid : TalkState) (server server' : CallerSeen) (so : SoFar k v w a old server) (call : BookCall) (waiting : Waiting)
    (x : Asks k v w a b old mid server so call waiting) (fault : CallFault) → k.goes server [] server' → server'.made ≡ MOST_TURNS
    → b.source ≡ a.source → b.sink ≡ a.sink → EndsEmpty b.source → Finishes k v server' w b (end.SpentTurns old.served)
spent_called k v w a b old mid server server' so call waiting x fault goes made source sink empty =
    let open_ = open_of k v w a old server so x.here in
    let kept = kept_then k v w a b old mid server server' so call waiting x (Err fault) goes in
    ends_called k v w a b old mid server server' so call waiting x (Err fault) (end.SpentTurns old.served) goes source sink empty
    (λ f. spent_no_read old.served f.0 f.1) (λ f. spent_no_write old.served f.0 f.1) (λ n is. made)
    (ends_turns (stop_called k v w a b old mid server server' so call waiting x [] []) (end.SpentTurns old.served) (
      ap end.SpentTurns so.served,
      open_.open_,
      refl,
      refl,
      record {
        moment = x.one.moment;
        request = x.one.request;
        later = x.one.later;
        call = call;
        one = x.one.one;
        told = x.one.settled;
        next = x.one.next;
        means = x.means;
        unkept = unkept (stands k v server' so.events so.steps so.printed) x.one.moment x.one.request old.notes call kept x.means x.asks_none;
      },
    ))
  where
    spent_no_read : (n m : ℕ) → end.SpentTurns n ≡ end.ReadFault m → ⊥
    spent_no_read n m e = cc

    spent_no_write : (n m : ℕ) → end.SpentTurns n ≡ end.WriteFault m → ⊥
    spent_no_write n m e = cc

-- the talk gives no answer
left_called : (k : Service) (v : CallerSeen) (w a b : Outside) (old mid later : TalkState) (server server' : CallerSeen) (so : SoFar k v w a old server) (call : BookCall) (waiting : Waiting)
    (x : Asks k v w a b old mid server so call waiting) (receipt : Result BookReceipt CallFault) (e : SessionEnd) → Calls k.settings call server receipt server'
    → k.goes server (steps_of call server receipt) server' → LeavesCall receipt mid e later → b.source ≡ a.source → b.sink ≡ a.sink → EndsEmpty b.source
    → Finishes k v server' w b e
left_called k v w a b old mid later server server' so call waiting x (Ok receipt) e calls goes leaves source sink empty =
    let is : e ≡ end.Memory old.served = leaves.0 ∙ ap end.Memory (mid_served k v w a b old mid server server' so call waiting x) in
    subst (λ (z : SessionEnd). Finishes k v server' w b z) (sym is)
    (lacked_called k v w a b old mid server server' so call waiting x (Ok receipt) goes source sink empty
    (inr (turn_in k v server server' so.events so.steps so.printed x.one.moment x.one.request call receipt.turn calls.others x.means calls.takes (last_of k v w a old server so))))
left_called k v w a b old mid later server server' so call waiting x (Err Memory) e calls goes leaves source sink empty =
    let is : e ≡ end.Memory old.served = leaves.0 ∙ ap end.Memory (mid_served k v w a b old mid server server' so call waiting x) in
    subst (λ (z : SessionEnd). Finishes k v server' w b z) (sym is)
    (lacked_called k v w a b old mid server server' so call waiting x (Err Memory) goes source sink empty (inl refl))
left_called k v w a b old mid later server server' so call waiting x (Err (PassSpent pass)) e calls goes leaves source sink empty =
    let is : e ≡ end.SpentTurns old.served = leaves.0 ∙ ap end.SpentTurns (mid_served k v w a b old mid server server' so call waiting x) in
    let made : server'.made ≡ MOST_TURNS = ap (λ (z : CallerSeen). z.made) calls.1 ∙ calls.0 in
    subst (λ (z : SessionEnd). Finishes k v server' w b z) (sym is)
    (spent_called k v w a b old mid server server' so call waiting x (PassSpent pass) goes made source sink empty)

-- the answer that comes next, of which a front was written
next_called : (k : Service) (v : CallerSeen) (w a b : Outside) (old mid : TalkState) (server server' : CallerSeen) (so : SoFar k v w a old server) (call : BookCall) (waiting : Waiting)
    (x : Asks k v w a b old mid server so call waiting) (receipt : Result BookReceipt CallFault) (tail bytes : List ℕ) (later : Notes) → Calls k.settings call server receipt server'
    → AnswersCall receipt waiting mid.notes bytes later
    → IsNext (stop_called k v w a b old mid server server' so call waiting x tail (steps_of call server receipt)) bytes
next_called k v w a b old mid server server' so call waiting x (Ok receipt) tail bytes later calls answers =
    let y = answer_of k v w a b old mid server server' so call waiting x receipt bytes later calls answers in
    inl (frame.request x.one.request, x.one.later, false, reads_one k v w a b old mid server server' so call waiting x, (y.last, (x.one.moment, x.one.one, y.answers)))
next_called k v w a b old mid server server' so call waiting x (Err Memory) tail bytes later calls answers =
    let y = response_of k v w a b old mid server server' so call waiting x (Err Memory) bytes later answers in
    inl (
      frame.request x.one.request,
      x.one.later,
      false,
      reads_one k v w a b old mid server server' so call waiting x,
      (so.printed, (x.one.moment, x.one.one, lacks_answers (stands k v server' so.events so.steps so.printed) x.one.moment x.one.request bytes y.0)),
    )
next_called k v w a b old mid server server' so call waiting x (Err (PassSpent pass)) tail bytes later calls answers = absurd answers

-- the answer to a call was not written whole
cut_called : (k : Service) (v : CallerSeen) (w a b : Outside) (old mid : TalkState) (server server' : CallerSeen) (so : SoFar k v w a old server) (call : BookCall) (waiting : Waiting)
    (x : Asks k v w a b old mid server so call waiting) (receipt : Result BookReceipt CallFault) (bytes : List ℕ) (later : Notes) → Calls k.settings call server receipt server'
    → k.goes server (steps_of call server receipt) server' → AnswersCall receipt waiting mid.notes bytes later
    → WritesLess a.sink b.sink bytes → b.source ≡ a.source → EndsEmpty b.source → Finishes k v server' w b (end.WriteFault old.served)
cut_called k v w a b old mid server server' so call waiting x receipt bytes later calls goes answers front source empty =
    let open_ = open_of k v w a old server so x.here in
    let more : List Step = steps_of call server receipt in
    let stop : Stop = stop_called k v w a b old mid server server' so call waiting x front.0 more in
    let next : IsNext stop bytes = next_called k v w a b old mid server server' so call waiting x receipt front.0 bytes later calls answers in
    finish_step k v w a b old server server' so x.moments front.0 (end.WriteFault old.served) more x.here
    (exchange a b [] x.moments front.0 (same_source a.source b.source source) x.told front.4) empty
    (no_fault a.source.faults b.source.faults (IsReadFault (end.WriteFault old.served)) (source_quiet a.source b.source source) (λ f. write_no_read old.served f.0 f.1))
    (one_fault a.sink.faults b.sink.faults (IsWriteFault (end.WriteFault old.served)) front.5 (old.served, refl))
    (known_then k v w a b old mid server server' so call waiting x receipt goes) (λ n is. absurd (fault_turned old.served n is))
    (answered_then k v w a b old mid server server' so call waiting x receipt goes)
    (inr (inr (inr (inr (inl (
      ap end.WriteFault so.served,
      open_.open_,
      (front.1, front.3, subst (λ (p : List ℕ). IsNext stop p) front.2 next),
    ))))))

-- after a call of the book
goes_call : (k : Service) (v : CallerSeen) (w a b : Outside) (old mid new : TalkState) (server server' : CallerSeen) (call : BookCall) (result : AfterStep) → SoFar k v w a old server
    → Wants a.clock b.clock old (Call call) mid → Called k.settings k.goes call a.sink b.sink mid server result new server' → b.source ≡ a.source
    → EndsEmpty b.source → Goes k v old.served w b result new server'
goes_call k v w a b old mid new server server' call Again so wants called source empty =
    let asks = asks_of k v w a b old mid server so call called.0 wants called.1 in
    let number : new.served ≡ old.served + 1 = ap (λ (z : TalkState). z.served) called.7 ∙ ap (λ n. n + 1) (mid_served k v w a b old mid server server' so call called.0 asks) in
    inr (
      omega (arith, number),
      wrote_called k v w a b old mid new server server' so call called.0 asks called.2 called.3 called.4 called.5 called.6 called.7 called.8 called.9 source,
    )
goes_call k v w a b old mid new server server' call (End e) so wants called source empty = of_kind called.5
  where
    asks : Asks k v w a b old mid server so call called.0
    asks = asks_of k v w a b old mid server so call called.0 wants called.1

    of_kind : StopsAnswering a.sink b.sink mid called.2 called.0 e → Finishes k v server' w b e
    of_kind (inl left) = left_called k v w a b old mid left.0.0 server server' so call called.0 asks called.2 e called.3 called.4 left.0.1 source left.1 empty
    of_kind (inr cut) =
        let is : e ≡ end.WriteFault old.served = cut.3 ∙ ap end.WriteFault (mid_served k v w a b old mid server server' so call called.0 asks) in
        subst (λ (z : SessionEnd). Finishes k v server' w b z) (sym is)
        (cut_called k v w a b old mid server server' so call called.0 asks called.2 cut.0 cut.1 called.3 called.4 cut.2 cut.4 source empty)

-- ---- a step

done : (k : Service) (v : CallerSeen) (w a b : Outside) (old mid new : TalkState) (server server' : CallerSeen) (want : Want) (result : AfterStep) → SoFar k v w a old server
    → Wants a.clock b.clock old want mid → IsOwnWant want → Does k.settings k.goes old.served a b mid server want result new server' → EndsEmpty b.source
    → Goes k v old.served w b result new server'
done k v w a b old mid new server server' More result so wants own does empty =
    subst (λ (z : CallerSeen). Goes k v old.served w b result new z) (sym does.2) (goes_read k v w a b old mid new server result so wants does.0 does.1 empty)
done k v w a b old mid new server server' (Write bytes) result so wants own does empty =
    subst (λ (z : CallerSeen). Goes k v old.served w b result new z) (sym does.3) (goes_write k v w a b old mid new server bytes result so wants does.0 does.1 does.2 empty)
done k v w a b old mid new server server' (Call call) result so wants own does empty =
    goes_call k v w a b old mid new server server' call result so wants does.0 does.1 empty
done k v w a b old mid new server server' (Leave e) result so wants own does empty =
    subst (λ (p : AfterStep). Goes k v old.served w b p new server') (sym does.0)
    (subst (λ (z : CallerSeen). Finishes k v z w b e) (sym does.3) (goes_leave k v w a b old mid server e so wants own does.1 does.2 empty))

-- after a step of a session
pub steps_on : (k : Service) (v : CallerSeen) (w a b : Outside) (old new : TalkState) (server server' : CallerSeen) (result : AfterStep) → SoFar k v w a old server
    → StepsOn k.settings k.goes a b old server result new server' → EndsEmpty b.source → Goes k v old.served w b result new server'
steps_on k v w a b old new server server' result so (inl (want, mid, wants, own, does)) empty =
    done k v w a b old mid new server server' want result so wants own does empty
steps_on k v w a b old new server server' result so (inr stopped) empty =
    subst (λ (p : AfterStep). Goes k v old.served w b p new server') (sym stopped.1)
    (subst (λ (z : CallerSeen). Finishes k v z w b (end.Memory old.served)) (sym stopped.4)
    (goes_lacks k v w a b old new server so stopped.0 stopped.2 stopped.3 empty))
