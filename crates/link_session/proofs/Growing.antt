-- A session so far goes on by one more event.
use Rattle.std.proofs.Common.{◌≡◌, ◌≢◌, ◌⊎◌, ℕ, ◌+◌, ◌<◌, ◌≤◌, ◌==◌, ◌||◌, List, [], ◌∷◌, ◌++◌, length, Bool, true, false, Option, Some, None, IsTrue, if◌then◌else◌, inl, inr, sym, ◌∙◌, ap, subst, refl, append-nil, append_assoc, add_assoc, arith}
use Rattle.std.proofs.lemmas.Bool.Decides.{eqb_tells}
use Rattle.bim_io.specs.Causes.{WithinMost}
use Rattle.bim_io.specs.StreamViews.{Outside, Exchanges}
use Rattle.bim_io.proofs.Calls.{exchanges_none, exchanges_trans}
use Rattle.http_frame.specs.Events.{Event, IsRest, IsTold}
use Rattle.http_frame.specs.Events as frame
use Rattle.http_frame.specs.Framers.{Stands}
use Rattle.book_history.specs.Runs.{Step}
use Rattle.bim_session.specs.declared.end.SessionEnd.{SessionEnd}
use Rattle.bim_session.specs.declared.end.SessionEnd.TheVariants as end
use Rattle.bim_session.specs.Session.{WorksBehind, past, Stop, IsBare, Ends, Reads, AnswersEvent, Answered, behind, closes, counted, requests, most_requests, closes_after}
use Rattle.bim_session.specs.Replay.{ReadsAsNeeded, HoldsNoMore, IsOneRead}
use Rattle.bim_session.specs.declared.notes.Notes.{Notes}
use Rattle.bim_session.specs.Works.{Printed}
use Rattle.bim_session.specs.Talking.{TalkState, fresh, KeepsNone, Feeds, is_end, with_framer, with_piece, leaving_after}
use Rattle.bim_session.proofs.Reading.{Reads_more, Reads_append, requests-push, is_closed-push}
use Rattle.bim_session.proofs.Sessions.{Answered_push}
use Rattle.book_passes.specs.Lessons.{CallerSeen}
use Rattle.link_session.proofs.Kept.{Keeps, keeps_start}
use Rattle.link_session.proofs.SoFar.{Service, SoFar, GoesOn, LeavesBy, IsQuiet, start, stop_of}

pub quiet_trans : (a b c : Outside) → IsQuiet a b → IsQuiet b c → IsQuiet a c
quiet_trans a b c p q = (q.0 ∙ p.0, q.1 ∙ p.1)

-- nothing more was read
pub exchanged : (a b c : Outside) (input moments output late tail : List ℕ) → Exchanges a b input moments output → Exchanges b c [] late tail
    → Exchanges a c input (moments ++ late) (output ++ tail)
exchanged a b c input moments output late tail first next =
    subst (λ (i : List ℕ). Exchanges a c i (moments ++ late) (output ++ tail)) (append-nil input)
    (exchanges_trans a b c input moments output [] late tail first next)

-- ---- where a session goes on

pub none_some : (o : Option SessionEnd) (e : SessionEnd) → o ≡ None → o ≡ Some e → ⊥
none_some o e none some = cc

-- what is known of a session that is not leaving
leaves_none : (stop : Stop) (o : Option SessionEnd) → o ≡ None → LeavesBy stop o → GoesOn stop
leaves_none stop None e leaves = leaves
leaves_none stop (Some x) e leaves = cc

pub leaves_some : (stop : Stop) (o : Option SessionEnd) (x : SessionEnd) → o ≡ Some x → LeavesBy stop o → Ends stop x
leaves_some stop None x e leaves = cc
leaves_some stop (Some y) x e leaves = let same : y ≡ x = cc in subst (λ (z : SessionEnd). Ends stop z) same leaves

pub leaves_here : (stop : Stop) (o : Option SessionEnd) → o ≡ None → GoesOn stop → LeavesBy stop o
leaves_here stop None e goes = goes
leaves_here stop (Some x) e goes = cc

-- where a session stands so far
abbrev pub stands_at : (k : Service) (v : CallerSeen) (w a : Outside) (old : TalkState) (server : CallerSeen) → SoFar k v w a old server → Stop
stands_at k v w a old server so = stop_of (start k v server) so.events so.steps so.printed a.source.ended so.rest so.told so.late so.tail []

-- what is known where a session goes on
pub open_of : (k : Service) (v : CallerSeen) (w a : Outside) (old : TalkState) (server : CallerSeen) (so : SoFar k v w a old server) → old.leaving ≡ None → GoesOn (stands_at k v w a old server so)
open_of k v w a old server so here = leaves_none (stands_at k v w a old server so) old.leaving here so.leaving

pub plain_moments : (k : Service) (v : CallerSeen) (w a : Outside) (old : TalkState) (server : CallerSeen) (so : SoFar k v w a old server) → old.leaving ≡ None → so.moments ≡ so.asked
plain_moments k v w a old server so here =
    let goes = open_of k v w a old server so here in
    so.moments_are ∙ ap (λ t. so.asked ++ t) goes.bare.0 ∙ append-nil so.asked

pub plain_output : (k : Service) (v : CallerSeen) (w a : Outside) (old : TalkState) (server : CallerSeen) (so : SoFar k v w a old server) → old.leaving ≡ None → so.output ≡ so.out
plain_output k v w a old server so here =
    let goes = open_of k v w a old server so here in
    so.output_is ∙ ap (λ t. so.out ++ t) goes.bare.1 ∙ append-nil so.out

-- ---- the beginning

none_within : (most : Option ℕ) → WithinMost most 0
none_within None = tt
none_within (Some n) = omega arith

pub none_needed : (most : Option ℕ) → ReadsAsNeeded most [] []
none_needed most = record {
  earlier = [];
  piece = [];
  input_is = refl;
  one_read = (omega arith, none_within most);
  needed = inl refl;
}

-- a talk that has been fed nothing
pub record IsFresh (talk : TalkState) : Type 0 where
  pub stands : Stands talk.framer [] false
  pub ended : talk.ended ≡ false
  pub served : talk.served ≡ 0
  pub waits : talk.waits ≡ None
  pub leaving : talk.leaving ≡ None

pub fresh_of : (talk : TalkState) → Stands talk.framer [] false
    → talk ≡ fresh talk.framer talk.notes → IsFresh talk
fresh_of talk stands is = record {
  stands = stands;
  ended = ap (λ (t : TalkState). t.ended) is;
  served = ap (λ (t : TalkState). t.served) is;
  waits = ap (λ (t : TalkState). t.waits) is;
  leaving = ap (λ (t : TalkState). t.leaving) is;
}

pub so_far_start : (k : Service) (v : CallerSeen) (w : Outside) (talk : TalkState) → k.goes v [] v → IsFresh talk → KeepsNone v.last talk.notes → SoFar k v w w talk v
so_far_start k v w talk stays is_fresh none = record {
  input = [];
  moments = [];
  output = [];
  events = [];
  rest = [];
  told = false;
  asked = [];
  late = [];
  out = [];
  tail = [];
  steps = [];
  printed = record { turn = v.last; sets = [] };
  exchanges = exchanges_none w;
  quiet = (refl, refl);
  moments_are = refl;
  output_is = refl;
  reads = (refl, refl);
  as_needed = none_needed w.source.most;
  known = stays;
  answered = (refl, refl, refl, refl);
  turns = omega arith;
  kept = keeps_start k.settings v.seen v.last talk.notes none;
  stands = is_fresh.stands;
  served = is_fresh.served;
  idle = is_fresh.waits;
  most = omega arith;
  ended_is = λ e. absurd (let f : false ≡ true = sym is_fresh.ended ∙ e in cc);
  turned = λ n e. none_some talk.leaving (end.SpentTurns n) is_fresh.leaving e;
  leaving = leaves_here (stop_of (start k v v) [] [] (record { turn = v.last; sets = [] }) w.source.ended [] false [] [] []) talk.leaving is_fresh.leaving
      (record { open_ = refl; room = omega arith; bare = (refl, refl, refl) });
}

-- ---- a piece

piece_ends : (piece : List ℕ) (over : Bool) → (piece ≡ [] → IsTrue over) → is_end piece ≡ true → IsTrue over
piece_ends [] over at_end e = at_end refl
piece_ends (c ∷ cs) over at_end e = cc

-- no more was read than was needed, since nothing was left to answer
pub needed_more : (most : Option ℕ) (input piece : List ℕ) (events : List Event) (rest : List ℕ) (told : Bool) → Reads input false events rest told → IsTold told rest → IsRest rest
    → IsOneRead most (length piece) → ReadsAsNeeded most (input ++ piece) events
needed_more most input piece events rest told reads settled nothing short = record {
  earlier = input;
  piece = piece;
  input_is = refl;
  one_read = short;
  needed = inr (record {
    first = events;
    later = [];
    rest = rest;
    told = told;
    events_are = sym (append-nil events);
    reads = reads;
    settled = settled;
    nothing = nothing;
  });
}

-- a source keeps the bound of its reads
pub first_most : (w a : Outside) (input moments output : List ℕ) (n : ℕ) → Exchanges w a input moments output → IsOneRead a.source.most n → IsOneRead w.source.most n
first_most w a input moments output n gave short = subst (λ (o : Option ℕ). IsOneRead o n) gave.gave.most short

-- a piece is fed, or the end
pub so_far_fed : (k : Service) (v : CallerSeen) (w a b : Outside) (old mid new : TalkState) (server : CallerSeen) (so : SoFar k v w a old server) (piece : List ℕ)
    → old.leaving ≡ None → IsTold so.told so.rest → IsRest so.rest → Stands mid.framer so.rest so.told → mid ≡ with_framer mid.framer old
    → IsOneRead a.source.most (length piece) → Feeds piece mid new → Exchanges a b piece [] [] → IsQuiet a b → (piece ≡ [] → IsTrue b.source.ended)
    → SoFar k v w b new server
so_far_fed k v w a b old mid new server so piece here settled nothing stands same short feeds gave quiet at_end =
    let goes = open_of k v w a old server so here in
    let fed : new ≡ with_piece new.framer piece (with_framer mid.framer old) = feeds.1 ∙ ap (λ (z : TalkState). with_piece new.framer piece z) same in
    record {
      input = so.input ++ piece;
      moments = so.moments ++ [];
      output = so.output ++ [];
      events = so.events;
      rest = so.rest ++ piece;
      told = so.told;
      asked = so.asked;
      late = [];
      out = so.out;
      tail = [];
      steps = so.steps;
      printed = so.printed;
      exchanges = exchanges_trans w a b so.input so.moments so.output piece [] [] so.exchanges gave;
      quiet = quiet_trans w a b so.quiet quiet;
      moments_are = ap (λ l. l ++ []) (plain_moments k v w a old server so here);
      output_is = ap (λ l. l ++ []) (plain_output k v w a old server so here);
      reads = Reads_more so.input false so.events so.rest so.told piece so.reads;
      as_needed = needed_more w.source.most so.input piece so.events so.rest so.told so.reads settled nothing (first_most w a so.input so.moments so.output (length piece) so.exchanges short);
      known = so.known;
      answered = so.answered;
      turns = so.turns;
      kept = subst (λ (n : Notes). Keeps k.settings server.seen n so.printed) (sym (ap (λ (z : TalkState). z.notes) fed)) so.kept;
      stands = feeds.0 so.rest so.told stands;
      served = ap (λ (z : TalkState). z.served) fed ∙ so.served;
      idle = ap (λ (z : TalkState). z.waits) fed ∙ so.idle;
      most = so.most;
      ended_is = λ e. piece_ends piece b.source.ended at_end (sym (ap (λ (z : TalkState). z.ended) fed) ∙ e);
      turned = λ n e. none_some new.leaving (end.SpentTurns n) (ap (λ (z : TalkState). z.leaving) fed ∙ here) e;
      leaving = leaves_here (stop_of (start k v server) so.events so.steps so.printed b.source.ended (so.rest ++ piece) so.told [] [] []) new.leaving
          (ap (λ (z : TalkState). z.leaving) fed ∙ here)
          (record { open_ = goes.open_; room = goes.room; bare = (refl, refl, refl) });
    }

-- ---- one more event

tells_true : (n m : ℕ) → ((n == m) ≡ true) → n ≡ m
tells_true n m e = of_two (eqb_tells n m)
  where
    of_two : (((n == m) ≡ true) × (n ≡ m)) ⊎ (((n == m) ≡ false) × (n ≢ m)) → n ≡ m
    of_two (inl is) = is.1
    of_two (inr other) = absurd (let f : true ≡ false = sym e ∙ other.0 in cc)

tells_false : (n m : ℕ) → ((n == m) ≡ false) → n ≢ m
tells_false n m e = of_two (eqb_tells n m)
  where
    of_two : (((n == m) ≡ true) × (n ≡ m)) ⊎ (((n == m) ≡ false) × (n ≢ m)) → n ≢ m
    of_two (inl is) = absurd (let f : true ≡ false = sym is.0 ∙ e in cc)
    of_two (inr other) = other.1

or_true : (b : Bool) → (b || true) ≡ true
or_true true = refl
or_true false = refl

below : (n : ℕ) → n ≤ most_requests → n ≢ most_requests → n < most_requests
below n le other = omega (arith, le, other)

-- how a session goes on after the answer to the request of a number
leaves_request : (stop : Stop) (n : ℕ) (close last : Bool) → stop.closed ≡ (close || last) → stop.standing.served ≡ n → n ≤ most_requests
    → (last ≡ true → n ≡ most_requests) → (last ≡ false → n ≢ most_requests) → IsBare stop
    → LeavesBy stop (if last then Some (end.Spent n) else (if (close || last) then Some (end.Asked n) else None))
leaves_request stop n close true closed served le is other bare =
    inr (inr (inr (inr (inr (inr (inl (ap end.Spent (sym served), closed ∙ or_true close, bare, served ∙ is refl)))))))
leaves_request stop n true false closed served le is other bare =
    inr (inl (ap end.Asked (sym served), closed, bare, (let lt = below n le (other refl) in rw served lt)))
leaves_request stop n false false closed served le is other bare = record {
  open_ = closed;
  room = (let lt = below n le (other refl) in rw served lt);
  bare = bare;
}

-- how a session is to end after an event, before which so many requests were answered
abbrev pub leaving_behind : ℕ → Event → Option SessionEnd
leaving_behind n frame.continue = None
leaving_behind n (frame.request r) = leaving_after (n + 1) (closes_after r (n + 1))

leaves_behind : (stop : Stop) (n : ℕ) (event : Event) → stop.closed ≡ closes n event → stop.standing.served ≡ n + counted event
    → n < most_requests → IsBare stop → LeavesBy stop (leaving_behind n event)
leaves_behind stop n frame.continue closed served lt bare = record {
  open_ = closed;
  room = (let same : stop.standing.served ≡ n = served ∙ omega arith in rw same lt);
  bare = bare;
}
leaves_behind stop n (frame.request r) closed served lt bare =
    leaves_request stop (n + 1) r.close (n + 1 == most_requests) closed served (omega (arith, lt)) (tells_true (n + 1) most_requests)
    (tells_false (n + 1) most_requests) bare

-- never for want of a turn
turned_after : (n k : ℕ) (close last : Bool) → (if last then Some (end.Spent n) else (if close then Some (end.Asked n) else None)) ≡ Some (end.SpentTurns k) → ⊥
turned_after n k close true e = cc
turned_after n k true false e = cc
turned_after n k false false e = cc

turned_behind : (n : ℕ) (event : Event) (k : ℕ) → leaving_behind n event ≡ Some (end.SpentTurns k) → ⊥
turned_behind n frame.continue k e = cc
turned_behind n (frame.request r) k e = turned_after (n + 1) k (closes_after r (n + 1)) (n + 1 == most_requests) e

count_behind : (n : ℕ) (events : List Event) (event : Event) → n + requests (events ++ event ∷ []) ≡ (n + requests events) + counted event
count_behind n events event = ap (λ k. n + k) (requests-push events event) ∙ sym (add_assoc n (requests events) (counted event))

counted_one : (event : Event) → counted event ≤ 1
counted_one frame.continue = omega arith
counted_one (frame.request r) = omega arith

-- of what was read before the last piece, it is still so where one more event was answered
needed_push : (most : Option ℕ) (input : List ℕ) (events : List Event) (event : Event) → ReadsAsNeeded most input events → ReadsAsNeeded most input (events ++ event ∷ [])
needed_push most input events event needs = record {
  earlier = needs.earlier;
  piece = needs.piece;
  input_is = needs.input_is;
  one_read = needs.one_read;
  needed = needed_still needs.needed;
}
  where
    needed_still : (needs.earlier ≡ []) ⊎ HoldsNoMore needs.earlier events → (needs.earlier ≡ []) ⊎ HoldsNoMore needs.earlier (events ++ event ∷ [])
    needed_still (inl none) = inl none
    needed_still (inr holds) = inr (record {
      first = holds.first;
      later = holds.later ++ event ∷ [];
      rest = holds.rest;
      told = holds.told;
      events_are = ap (λ es. es ++ event ∷ []) holds.events_are ∙ append_assoc holds.first holds.later (event ∷ []);
      reads = holds.reads;
      settled = holds.settled;
      nothing = holds.nothing;
    })

-- one more event is answered, and the work after it is done
pub so_far_push : (k : Service) (v : CallerSeen) (w a b : Outside) (old new : TalkState) (server server' : CallerSeen) (so : SoFar k v w a old server)
    (event : Event) (later : List ℕ) (mark : Bool) (asked bytes : List ℕ) (own work : List Step) (printed : Printed)
    → old.leaving ≡ None → Reads so.rest so.told (event ∷ []) later mark → Stands new.framer later mark
    → AnswersEvent (behind (start k v server') so.events so.steps so.printed) event asked bytes own printed
    → WorksBehind (past (behind (start k v server') so.events so.steps so.printed) event own printed) event work
    → k.goes v (so.steps ++ (own ++ work)) server'
    → Answered (start k v server') so.events so.asked so.out so.steps so.printed
    → printed.turn ≤ server'.last → Keeps k.settings server'.seen new.notes printed
    → Exchanges a b [] asked bytes → IsQuiet a b → b.source.ended ≡ a.source.ended
    → new.served ≡ old.served + counted event → new.waits ≡ None → new.ended ≡ old.ended → new.leaving ≡ leaving_behind old.served event
    → SoFar k v w b new server'
so_far_push k v w a b old new server server' so event later mark asked bytes own work printed here reads stands answers works known answered turns kept gave quiet over served idle going leaving =
    let goes = open_of k v w a old server so here in
    let room : 0 + requests so.events < most_requests = goes.room in
    let more : 0 + requests (so.events ++ event ∷ []) ≡ (0 + requests so.events) + counted event = count_behind 0 so.events event in
    let stop : Stop = stop_of (start k v server') (so.events ++ event ∷ []) (so.steps ++ (own ++ work)) printed b.source.ended later mark [] [] [] in
    let leaves : LeavesBy stop (leaving_behind (0 + requests so.events) event) =
    leaves_behind stop (0 + requests so.events) event (is_closed-push 0 so.events event goes.open_) more room (refl, refl, refl) in
    record {
      input = so.input;
      moments = so.moments ++ asked;
      output = so.output ++ bytes;
      events = so.events ++ event ∷ [];
      rest = later;
      told = mark;
      asked = so.asked ++ asked;
      late = [];
      out = so.out ++ bytes;
      tail = [];
      steps = so.steps ++ (own ++ work);
      printed = printed;
      exchanges = exchanged w a b so.input so.moments so.output asked bytes so.exchanges gave;
      quiet = quiet_trans w a b so.quiet quiet;
      moments_are = ap (λ l. l ++ asked) (plain_moments k v w a old server so here) ∙ sym (append-nil (so.asked ++ asked));
      output_is = ap (λ o. o ++ bytes) (plain_output k v w a old server so here) ∙ sym (append-nil (so.out ++ bytes));
      reads = Reads_append so.input false so.events so.rest so.told (event ∷ []) later mark so.reads reads;
      as_needed = needed_push w.source.most so.input so.events event so.as_needed;
      known = known;
      answered = Answered_push (start k v server') so.events so.asked so.out so.steps so.printed event asked bytes own work printed answered goes.open_ answers works;
      turns = turns;
      kept = kept;
      stands = stands;
      served = served ∙ ap (λ n. n + counted event) so.served ∙ sym more;
      idle = idle;
      most = (let one_more = counted_one event in let le : (0 + requests so.events) + counted event ≤ most_requests = omega (arith, room, one_more) in rw more le);
      ended_is = λ e. rw over (so.ended_is (sym going ∙ e));
      turned = λ n e. turned_behind old.served event n (sym leaving ∙ e);
      leaving = subst (λ (o : Option SessionEnd). LeavesBy stop o)
          (ap (λ n. leaving_behind n event) (sym so.served) ∙ sym leaving) leaves;
    }
