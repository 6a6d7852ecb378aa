-- A session so far ends.
use Rattle.std.proofs.Common.{◌≡◌, ◌⊎◌, ℕ, List, [], ◌++◌, length, true, false, Some, None, inl, inr, sym, ap, ◌∙◌, subst, refl, append-nil, arith}
use Rattle.bim_io.specs.Causes.{Rose, ComesOfFault}
use Rattle.bim_io.specs.StreamViews.{Outside, EndsEmpty, Exchanges}
use Rattle.bim_io.proofs.Calls.{exchanges_none, exchanges_trans}
use Rattle.http_frame.specs.Events.{IsRest, IsTold}
use Rattle.book_turn.specs.declared.limits.TheConstants.{MOST_TURNS}
use Rattle.book_history.specs.Runs.{Step}
use Rattle.bim_session.specs.declared.end.SessionEnd.{SessionEnd}
use Rattle.bim_session.specs.declared.end.SessionEnd.TheVariants as end
use Rattle.bim_session.specs.declared.want.Want.TheVariants.{Leave}
use Rattle.bim_session.specs.Session.{Stop, Reads, Answered, Ends, EndsMemory, EndsTurns, EndsWorking, TakesUnanswered}
use Rattle.bim_session.specs.Replay.{IsReadFault, IsWriteFault, ReadsAsNeeded, IsOneRead}
use Rattle.bim_session.specs.Talking.{TalkState, MeetsEnd, IsOwnEnd, IsOwnLeaving, IsOwnWant, StopsShort, TakesRequest}
use Rattle.bim_session.proofs.Reading.{Reads_more}
use Rattle.book_passes.specs.Lessons.{CallerSeen}
use Rattle.link_session.proofs.SoFar.{Service, IsQuiet, SoFar, Finishes, start, stop_of}
use Rattle.link_session.proofs.Growing.{leaves_some, open_of, plain_moments, plain_output, exchanged, needed_more, none_needed, first_most}

-- memory ran out, or no turn was left
pub ends_memory : (stop : Stop) (e : SessionEnd) → EndsMemory stop e → Ends stop e
ends_memory stop e x = inr (inr (inr (inr (inr (inr (inr (inr (inl x))))))))

pub ends_turns : (stop : Stop) (e : SessionEnd) → EndsTurns stop e → Ends stop e
ends_turns stop e x = inr (inr (inr (inr (inr (inr (inr (inl x)))))))

-- memory ran out in the work after an answer
pub ends_working : (stop : Stop) (e : SessionEnd) → EndsWorking stop e → Ends stop e
ends_working stop e x = inr (inr (inr (inr (inr (inr (inr (inr (inr x))))))))

-- no call failed
pub no_fault : (n n' : ℕ) (said : Type 0) → n' ≡ n → (said → ⊥) → ComesOfFault n n' said
no_fault n n' said same not_said = record {
  only = λ s. absurd (not_said s);
  always = λ lt. absurd (omega (arith, lt, same));
}

-- a call failed
pub one_fault : (n n' : ℕ) (said : Type 0) → Rose n n' → said → ComesOfFault n n' said
one_fault n n' said rose s = record {
  only = λ x. rose;
  always = λ lt. s;
}

-- the end isn't for want of a turn
abbrev pub IsTurned : SessionEnd → Type 0
IsTurned e = (n : ℕ) → e ≡ end.SpentTurns n → ⊥

pub memory_turned : (n : ℕ) → IsTurned (end.Memory n)
memory_turned n = λ k e. cc

closed_turned : (n : ℕ) → IsTurned (end.Closed n)
closed_turned n = λ k e. cc

cut_turned : (n : ℕ) → IsTurned (end.Cut n)
cut_turned n = λ k e. cc

own_read : (e : SessionEnd) → IsOwnEnd e → IsReadFault e → ⊥
own_read e own fault = (own fault.0).0 fault.1

own_write : (e : SessionEnd) → IsOwnEnd e → IsWriteFault e → ⊥
own_write e own fault = (own fault.0).1 fault.1

pub memory_own : (n : ℕ) → IsOwnEnd (end.Memory n)
memory_own n = λ k. (λ e. cc, λ e. cc)

closed_own : (n : ℕ) → IsOwnEnd (end.Closed n)
closed_own n = λ k. (λ e. cc, λ e. cc)

cut_own : (n : ℕ) → IsOwnEnd (end.Cut n)
cut_own n = λ k. (λ e. cc, λ e. cc)

-- a talk that wants to leave does so by an end of its own
pub own_end : (e : SessionEnd) → IsOwnWant (Leave e) → IsOwnEnd e
own_end e own = λ n. (λ is. (own n).0 (ap Leave is), λ is. (own n).1 (ap Leave is))

pub some_end : (e : SessionEnd) → IsOwnLeaving (Some e) → IsOwnEnd e
some_end e own = λ n. (λ is. (own n).0 (ap Some is), λ is. (own n).1 (ap Some is))

-- it ends after more was exchanged, and perhaps one more step
finish : (k : Service) (v : CallerSeen) (w a b : Outside) (old : TalkState) (server server' : CallerSeen) (so : SoFar k v w a old server) (input rest late tail : List ℕ) (e : SessionEnd) (more : List Step)
    → old.leaving ≡ None → Exchanges w b input (so.moments ++ late) (so.output ++ tail) → EndsEmpty b.source
    → Reads input false so.events rest so.told → ReadsAsNeeded w.source.most input so.events
    → ComesOfFault a.source.faults b.source.faults (IsReadFault e) → ComesOfFault a.sink.faults b.sink.faults (IsWriteFault e)
    → k.goes v (so.steps ++ more) server' → ((n : ℕ) → e ≡ end.SpentTurns n → server'.made ≡ MOST_TURNS)
    → Answered (start k v server') so.events so.asked so.out so.steps so.printed
    → Ends (stop_of (start k v server') so.events so.steps so.printed b.source.ended rest so.told late tail more) e
    → Finishes k v server' w b e
finish k v w a b old server server' so input rest late tail e more here gave empty reads needed read write known turned answered ends = record {
  input = input;
  moments = so.moments ++ late;
  output = so.output ++ tail;
  steps = so.steps ++ more;
  exchanges = gave;
  empty = empty;
  learns = k.laws.learns v server' (so.steps ++ more) known;
  goes_by = known;
  session = record {
    events = so.events;
    rest = rest;
    told = so.told;
    asked = so.asked;
    late = late;
    out = so.out;
    tail = tail;
    done = so.steps;
    more = more;
    printed = so.printed;
    moments_are = ap (λ l. l ++ late) (plain_moments k v w a old server so here);
    output_is = ap (λ o. o ++ tail) (plain_output k v w a old server so here);
    steps_are = refl;
    reads = reads;
    answered = answered;
    ends = ends;
  };
  as_needed = needed;
  read_fault = subst (λ (n : ℕ). ComesOfFault n b.source.faults (IsReadFault e)) so.quiet.0 read;
  write_fault = subst (λ (n : ℕ). ComesOfFault n b.sink.faults (IsWriteFault e)) so.quiet.1 write;
  turns = turned;
}

-- it ends without another read, and perhaps after one more step
pub finish_step : (k : Service) (v : CallerSeen) (w a b : Outside) (old : TalkState) (server server' : CallerSeen) (so : SoFar k v w a old server) (late tail : List ℕ) (e : SessionEnd) (more : List Step)
    → old.leaving ≡ None → Exchanges a b [] late tail → EndsEmpty b.source
    → ComesOfFault a.source.faults b.source.faults (IsReadFault e) → ComesOfFault a.sink.faults b.sink.faults (IsWriteFault e)
    → k.goes v (so.steps ++ more) server' → ((n : ℕ) → e ≡ end.SpentTurns n → server'.made ≡ MOST_TURNS)
    → Answered (start k v server') so.events so.asked so.out so.steps so.printed
    → Ends (stop_of (start k v server') so.events so.steps so.printed b.source.ended so.rest so.told late tail more) e
    → Finishes k v server' w b e
finish_step k v w a b old server server' so late tail e more here gave empty read write known turned answered ends =
    finish k v w a b old server server' so so.input so.rest late tail e more here (exchanged w a b so.input so.moments so.output late tail so.exchanges gave)
    empty so.reads so.as_needed read write known turned answered ends

-- it ends without another read and without one more step
pub finish_same : (k : Service) (v : CallerSeen) (w a b : Outside) (old : TalkState) (server : CallerSeen) (so : SoFar k v w a old server) (late tail : List ℕ) (e : SessionEnd)
    → old.leaving ≡ None → Exchanges a b [] late tail → EndsEmpty b.source
    → ComesOfFault a.source.faults b.source.faults (IsReadFault e) → ComesOfFault a.sink.faults b.sink.faults (IsWriteFault e)
    → IsTurned e
    → Ends (stop_of (start k v server) so.events so.steps so.printed b.source.ended so.rest so.told late tail []) e
    → Finishes k v server w b e
finish_same k v w a b old server so late tail e here gave empty read write turned ends =
    let same : so.steps ++ [] ≡ so.steps = append-nil so.steps in
    finish_step k v w a b old server server so late tail e [] here gave empty read write
    (rw same so.known) (λ n is. absurd (turned n is)) so.answered ends

-- it ends by an end of its own, and nothing failed
pub finish_own : (k : Service) (v : CallerSeen) (w a b : Outside) (old : TalkState) (server : CallerSeen) (so : SoFar k v w a old server) (late : List ℕ) (e : SessionEnd)
    → old.leaving ≡ None → IsOwnEnd e → IsTurned e → Exchanges a b [] late [] → IsQuiet a b → EndsEmpty b.source
    → Ends (stop_of (start k v server) so.events so.steps so.printed b.source.ended so.rest so.told late [] []) e
    → Finishes k v server w b e
finish_own k v w a b old server so late e here own turned gave quiet empty ends =
    finish_same k v w a b old server so late [] e here gave empty
    (no_fault a.source.faults b.source.faults (IsReadFault e) quiet.0 (own_read e own))
    (no_fault a.sink.faults b.sink.faults (IsWriteFault e) quiet.1 (own_write e own)) turned ends

-- it ends as it was leaving
pub finish_leaving : (k : Service) (v : CallerSeen) (w a : Outside) (old : TalkState) (server : CallerSeen) (so : SoFar k v w a old server) (e : SessionEnd)
    → old.leaving ≡ Some e → IsOwnEnd e → EndsEmpty a.source → Finishes k v server w a e
finish_leaving k v w a old server so e leaving own empty =
    let ends = leaves_some (stop_of (start k v server) so.events so.steps so.printed a.source.ended so.rest so.told so.late so.tail []) old.leaving e leaving so.leaving in
    record {
      input = so.input;
      moments = so.moments;
      output = so.output;
      steps = so.steps;
      exchanges = so.exchanges;
      empty = empty;
      learns = k.laws.learns v server so.steps so.known;
      goes_by = so.known;
      session = record {
        events = so.events;
        rest = so.rest;
        told = so.told;
        asked = so.asked;
        late = so.late;
        out = so.out;
        tail = so.tail;
        done = so.steps;
        more = [];
        printed = so.printed;
        moments_are = so.moments_are;
        output_is = so.output_is;
        steps_are = sym (append-nil so.steps);
        reads = so.reads;
        answered = so.answered;
        ends = ends;
      };
      as_needed = so.as_needed;
      read_fault = no_fault w.source.faults a.source.faults (IsReadFault e) so.quiet.0 (own_read e own);
      write_fault = no_fault w.sink.faults a.sink.faults (IsWriteFault e) so.quiet.1 (own_write e own);
      turns = λ n is. absurd (so.turned n (leaving ∙ ap Some is));
    }

-- it ends where the input has, and nothing is left to answer
pub finish_met : (k : Service) (v : CallerSeen) (w a : Outside) (old : TalkState) (server : CallerSeen) (so : SoFar k v w a old server) (e : SessionEnd)
    → old.leaving ≡ None → old.ended ≡ true → IsTold so.told so.rest → IsRest so.rest → MeetsEnd so.rest old.served e → EndsEmpty a.source → Finishes k v server w a e
finish_met k v w a old server so e here over settled nothing (inl closed) empty =
    subst (λ (z : SessionEnd). Finishes k v server w a z) (sym closed.1)
    (finish_own k v w a a old server so [] (end.Closed old.served) here (closed_own old.served) (closed_turned old.served) (exchanges_none a) (refl, refl) empty
    (inl (ap end.Closed so.served, (let goes = open_of k v w a old server so here in goes.open_), (refl, refl, refl), so.ended_is over, (settled, (nothing, closed.0)))))
finish_met k v w a old server so e here over settled nothing (inr cut) empty =
    subst (λ (z : SessionEnd). Finishes k v server w a z) (sym cut.1)
    (finish_own k v w a a old server so [] (end.Cut old.served) here (cut_own old.served) (cut_turned old.served) (exchanges_none a) (refl, refl) empty
    (inr (inr (inl (ap end.Cut so.served, (let goes = open_of k v w a old server so here in goes.open_), (refl, refl, refl), so.ended_is over, (settled, (nothing, cut.0)))))))

-- it ends out of memory, where no request was taken, or one was at its moment
pub finish_short : (k : Service) (v : CallerSeen) (w a b : Outside) (old new : TalkState) (server : CallerSeen) (so : SoFar k v w a old server) (late : List ℕ)
    → old.leaving ≡ None → StopsShort so.rest so.told late new → Exchanges a b [] late [] → IsQuiet a b → EndsEmpty b.source
    → Finishes k v server w b (end.Memory old.served)
finish_short k v w a b old new server so late here stops gave quiet empty =
    finish_own k v w a b old server so late (end.Memory old.served) here (memory_own old.served) (memory_turned old.served) gave quiet empty
    (ends_memory (stop_of (start k v server) so.events so.steps so.printed b.source.ended so.rest so.told late [] []) (end.Memory old.served)
    (ap end.Memory so.served, (let goes = open_of k v w a old server so here in goes.open_), refl, of_kind stops))
  where
    of_kind : (late ≡ []) ⊎ TakesRequest so.rest so.told late new.framer
        → ((late ≡ []) × (let none : List Step = [] in none ≡ []))
        ⊎ TakesUnanswered (stop_of (start k v server) so.events so.steps so.printed b.source.ended so.rest so.told late [] [])
    of_kind (inl none) = inl (none, refl)
    of_kind (inr one) = inr (record {
      moment = one.moment;
      request = one.request;
      later = one.later;
      one = one.one;
      told = one.settled;
      next = one.next;
      taken = inl refl;
    })

-- it ends out of memory where a piece was read that was not fed
pub finish_unfed : (k : Service) (v : CallerSeen) (w a b : Outside) (old : TalkState) (server : CallerSeen) (so : SoFar k v w a old server) (piece : List ℕ)
    → old.leaving ≡ None → IsTold so.told so.rest → IsRest so.rest → IsOneRead a.source.most (length piece) → Exchanges a b piece [] [] → IsQuiet a b → EndsEmpty b.source
    → Finishes k v server w b (end.Memory old.served)
finish_unfed k v w a b old server so piece here settled nothing short gave quiet empty =
    let same : so.steps ++ [] ≡ so.steps = append-nil so.steps in
    let own : IsOwnEnd (end.Memory old.served) = memory_own old.served in
    finish k v w a b old server server so (so.input ++ piece) (so.rest ++ piece) [] [] (end.Memory old.served) [] here
    (exchanges_trans w a b so.input so.moments so.output piece [] [] so.exchanges gave) empty
    (Reads_more so.input false so.events so.rest so.told piece so.reads) (needed_more w.source.most so.input piece so.events so.rest so.told so.reads settled nothing
    (first_most w a so.input so.moments so.output (length piece) so.exchanges short))
    (no_fault a.source.faults b.source.faults (IsReadFault (end.Memory old.served)) quiet.0 (own_read (end.Memory old.served) own))
    (no_fault a.sink.faults b.sink.faults (IsWriteFault (end.Memory old.served)) quiet.1 (own_write (end.Memory old.served) own))
    (rw same so.known) (λ n is. absurd (memory_turned old.served n is)) so.answered
    (ends_memory (stop_of (start k v server) so.events so.steps so.printed b.source.ended (so.rest ++ piece) so.told [] [] []) (end.Memory old.served)
    (ap end.Memory so.served, (let goes = open_of k v w a old server so here in goes.open_), refl, inl (refl, refl)))

-- it ends out of memory, where nothing was done
pub finish_memory : (k : Service) (v : CallerSeen) (w a : Outside) (old : TalkState) (server : CallerSeen) (so : SoFar k v w a old server)
    → old.leaving ≡ None → EndsEmpty a.source → Finishes k v server w a (end.Memory old.served)
finish_memory k v w a old server so here empty =
    finish_short k v w a a old old server so [] here (inl refl) (exchanges_none a) (refl, refl) empty

-- nothing was done
pub nothing_done : (k : Service) (v : CallerSeen) (w : Outside) → k.goes v [] v → EndsEmpty w.source → Finishes k v v w w (end.Memory 0)
nothing_done k v w stays empty = record {
  input = [];
  moments = [];
  output = [];
  steps = [];
  exchanges = exchanges_none w;
  empty = empty;
  learns = k.laws.learns v v [] stays;
  goes_by = stays;
  session = record {
    events = [];
    rest = [];
    told = false;
    asked = [];
    late = [];
    out = [];
    tail = [];
    done = [];
    more = [];
    printed = record { turn = v.last; sets = [] };
    moments_are = refl;
    output_is = refl;
    steps_are = refl;
    reads = (refl, refl);
    answered = (refl, refl, refl, refl);
    ends = ends_memory (stop_of (start k v v) [] [] (record { turn = v.last; sets = [] }) w.source.ended [] false [] [] []) (end.Memory 0) (refl, refl, refl, inl (refl, refl));
  };
  as_needed = none_needed w.source.most;
  read_fault = no_fault w.source.faults w.source.faults (IsReadFault (end.Memory 0)) refl (own_read (end.Memory 0) (memory_own 0));
  write_fault = no_fault w.sink.faults w.sink.faults (IsWriteFault (end.Memory 0)) refl (own_write (end.Memory 0) (memory_own 0));
  turns = λ n is. absurd (memory_turned 0 n is);
}
