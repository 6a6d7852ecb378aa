-- The work on buckets of a one-thread book, as steps of its run.
use Rattle.std.proofs.Common.{◌≡◌, ◌⊎◌, inl, inr, ℕ, zero, suc, ◌+◌, ◌*◌, ◌<◌, ◌≤◌, List, [], ◌∷◌, ◌++◌, length, sym, ◌∙◌, ap, subst, refl, append_assoc, append-nil, length-append, arith}
use Rattle.std.proofs.lemmas.List.Elements.{All-nil, All-cons, All-append, All-weaker}
use Rattle.book_history.specs.declared.changes.Entry.{Entry}
use Rattle.book_history.specs.declared.requests.BookCall.{BookCall}
use Rattle.book_history.specs.declared.requests.BookRequest.TheVariants.{TakeWork, Finish}
use Rattle.book_history.specs.Orders.{OrderValue}
use Rattle.book_history.specs.History.{at_turn, left_all, IsBefore}
use Rattle.book_history.specs.Requests.{without_turn, reply_of, added_by}
use Rattle.book_history.specs.Runs.{Step, IsRun, IsOneThread}
use Rattle.book_history.proofs.Histories.{AreOf, AreAbove, added_of, above_of, at_turn-new, at_turn-grown, Runs_push, follows_one, one_push}
use Rattle.bim_session.specs.Works.{Standing, IsTaken, Gives, WorksOne, WorksOn, left_behind, last_turn}
use Rattle.bim_session.proofs.Sessions.{gives_grown, on_grown, last_turn-append, entry_new}
use Rattle.server_commands.specs.inner.Turns.{ServerState, with_turn, stamp_of, left_of}
use Rattle.server_commands.specs.inner.BucketWork.{GivesOut, WorksBucket, WorksTimes, WorksPart, WorksUpTo}
use mathlib.Core.Logic.{dite}
use native.Mathlib.Decide.{dec_le}

-- the step of a call at the next turn
abbrev pub step_of : ServerState → BookCall → Step
step_of server call = record { stamp = stamp_of (server.turns + 1); call = call }

-- the next turn is taken, where the history has what the call adds there
taken_next : (s : Standing) (server : ServerState) (call : BookCall) → IsBefore (server.turns + 1) server.history
    → IsTaken (record s { settings = server.settings; history = (with_turn call server).history; top = server.turns + 1 }) (step_of server call)
taken_next s server call earlier = record {
  within = (let same : server.turns + 1 ≤ server.turns + 1 = omega arith in same);
  entry = entry_new server.settings server.history (step_of server call) earlier;
}

-- ---- entries of later turns

all_of : (turn : ℕ) (es : List Entry) → AreOf turn es → IsBefore (turn + 1) es
all_of turn [] are = All-nil (λ (e : Entry). e.stamp.turn < turn + 1)
all_of turn (e ∷ es) are =
    All-cons (λ (e : Entry). e.stamp.turn < turn + 1) e es (let is : e.stamp.turn ≡ turn = are.0 in omega (arith, is)) (all_of turn es are.1)

-- the entries of one more turn
before_more : (turn : ℕ) (h es : List Entry) → IsBefore turn h → AreOf turn es → IsBefore (turn + 1) (h ++ es)
before_more turn h es before are =
    All-append (λ (e : Entry). e.stamp.turn < turn + 1) h es
    (All-weaker (λ (e : Entry). e.stamp.turn < turn) (λ (e : Entry). e.stamp.turn < turn + 1) (λ e lt. omega (arith, lt)) h before)
    (all_of turn es are)

above_append : (top : ℕ) (xs ys : List Entry) → AreAbove top xs → AreAbove top ys → AreAbove top (xs ++ ys)
above_append top [] ys a b = b
above_append top (x ∷ xs) ys a b = (a.0, above_append top xs ys a.1 b)

above_lower : (low top : ℕ) (xs : List Entry) → low ≤ top → AreAbove top xs → AreAbove low xs
above_lower low top [] le a = tt
above_lower low top (x ∷ xs) le a = (let lt : top < x.stamp.turn = a.0 in omega (arith, le, lt), above_lower low top xs le a.1)

-- all entries are of earlier turns
pub at_whole : (turn : ℕ) (h : List Entry) → IsBefore turn h → at_turn turn h ≡ h
at_whole turn h before = ap (λ es. at_turn turn es) (sym (append-nil h)) ∙ at_turn-new turn h [] before tt

-- ---- steps of a book

-- the one state becomes the other by these steps
pub record Extends (old new : ServerState) (steps : List Step) : Type 0 where
  pub settings : new.settings ≡ old.settings
  pub more : List Entry
  pub history : new.history ≡ old.history ++ more
  pub above : AreAbove old.turns more
  pub turns : new.turns ≡ old.turns + length steps
  pub last : new.turns ≡ last_turn old.turns steps
  pub earlier : IsBefore (old.turns + 1) old.history → IsBefore (new.turns + 1) new.history
  pub run : (before : List Step) → IsRun old.settings before old.history → IsOneThread before → length before ≡ old.turns
      → IsRun new.settings (before ++ steps) new.history
  pub one : (before : List Step) → IsOneThread before → IsOneThread (before ++ steps)

pub extends_none : (s : ServerState) → Extends s s []
extends_none s = record {
  settings = refl;
  more = [];
  history = sym (append-nil s.history);
  above = tt;
  turns = (let e : s.turns ≡ s.turns + 0 = omega arith in e);
  last = refl;
  earlier = λ before. before;
  run = λ before run one count. subst (λ (ss : List Step). IsRun s.settings ss s.history) (sym (append-nil before)) run;
  one = λ before one. subst (λ (ss : List Step). IsOneThread ss) (sym (append-nil before)) one;
}

-- the next turn is taken
pub extends_one : (s : ServerState) (call : BookCall) → Extends s (with_turn call s) (step_of s call ∷ [])
extends_one s call =
    let added : List Entry = added_by s.settings s.history (stamp_of (s.turns + 1)) call in
    let own : AreOf (s.turns + 1) added = added_of s.settings s.history (stamp_of (s.turns + 1)) call in
    record {
      settings = refl;
      more = added;
      history = refl;
      above = above_of (s.turns + 1) s.turns added (omega arith) own;
      turns = refl;
      last = refl;
      earlier = λ before. before_more (s.turns + 1) s.history added before own;
      run = λ before run one count.
          Runs_push s.settings [] [] before s.history (step_of s call) run (follows_one before (step_of s call) s.turns one count refl);
      one = λ before one. one_push before (step_of s call) one refl;
    }

pub extends_on : (a b c : ServerState) (xs ys : List Step) → Extends a b xs → Extends b c ys → Extends a c (xs ++ ys)
extends_on a b c xs ys p q =
    let turns : b.turns ≡ a.turns + length xs = p.turns in
    let later : c.turns ≡ b.turns + length ys = q.turns in
    let both : length (xs ++ ys) ≡ length xs + length ys = length-append xs ys in
    let le : a.turns ≤ b.turns = omega (arith, turns) in
    record {
      settings = q.settings ∙ p.settings;
      more = p.more ++ q.more;
      history = q.history ∙ ap (λ h. h ++ q.more) p.history ∙ append_assoc a.history p.more q.more;
      above = above_append a.turns p.more q.more p.above (above_lower a.turns b.turns q.more le q.above);
      turns = (let e : c.turns ≡ a.turns + length (xs ++ ys) = omega (arith, turns, later, both) in e);
      last = q.last ∙ ap (λ n. last_turn n ys) p.last ∙ sym (last_turn-append a.turns xs ys);
      earlier = λ before. q.earlier (p.earlier before);
      run = λ before run one count.
          subst (λ (ss : List Step). IsRun c.settings ss c.history) (append_assoc before xs ys)
          (q.run (before ++ xs) (p.run before run one count) (p.one before one)
          (length-append before xs ∙ ap (λ n. n + length xs) count ∙ sym turns));
      one = λ before one. subst (λ (ss : List Step). IsOneThread ss) (append_assoc before xs ys) (q.one (before ++ xs) (p.one before one));
    }

pub extends_to : (a b c : ServerState) (xs : List Step) → Extends a b xs → c ≡ b → Extends a c xs
extends_to a b c xs p same = subst (λ (s : ServerState). Extends a s xs) (sym same) p

-- ---- a bucket

-- the two steps of a bucket
abbrev pub bucket_steps : (mid new : ServerState) → WorksBucket mid new → List Step
bucket_steps mid new works = step_of mid (without_turn (TakeWork 0)) ∷ step_of (with_turn (without_turn (TakeWork 0)) mid) (without_turn (Finish works.set)) ∷ []

bucket_extends : (mid new : ServerState) (works : WorksBucket mid new) → Extends mid new (bucket_steps mid new works)
bucket_extends mid new works =
    let first : ServerState = with_turn (without_turn (TakeWork 0)) mid in
    extends_to mid (with_turn (without_turn (Finish works.set)) first) new (bucket_steps mid new works)
    (extends_on mid first (with_turn (without_turn (Finish works.set)) first) (step_of mid (without_turn (TakeWork 0)) ∷ []) (step_of first (without_turn (Finish works.set)) ∷ [])
    (extends_one mid (without_turn (TakeWork 0))) (extends_one first (without_turn (Finish works.set))))
    works.new_is

-- the steps of so many buckets
pub times_steps : (old : ServerState) (count : ℕ) (new : ServerState) → WorksTimes old count new → List Step
times_steps old zero new works = []
times_steps old (suc count) new works = times_steps old count works.0 works.1 ++ bucket_steps works.0 new works.3

pub times_extends : (old : ServerState) (count : ℕ) (new : ServerState) (works : WorksTimes old count new) → Extends old new (times_steps old count new works)
unfolding times_steps
times_extends old zero new works = extends_to old old new [] (extends_none old) works
times_extends old (suc count) new works =
    extends_on old works.0 new (times_steps old count works.0 works.1) (bucket_steps works.0 new works.3) (times_extends old count works.0 works.1)
    (bucket_extends works.0 new works.3)

pub times_turns : (old : ServerState) (count : ℕ) (new : ServerState) → WorksTimes old count new → new.turns ≡ old.turns + 2 * count
times_turns old zero new works = ap (λ (s : ServerState). s.turns) works ∙ (let e : old.turns ≡ old.turns + 2 * 0 = omega arith in e)
times_turns old (suc count) new works =
    let before : works.0.turns ≡ old.turns + 2 * count = times_turns old count works.0 works.1 in
    let after : new.turns ≡ works.0.turns + 1 + 1 = ap (λ (s : ServerState). s.turns) works.3.new_is in
    omega (arith, before, after)

-- ---- the same at a standing

-- a standing at the history of a state
abbrev pub at_server : Standing → ServerState → Standing
at_server s server = record s { settings = server.settings; history = server.history; top = server.turns }

-- a bucket is given out
pub gives_here : (s : Standing) (mid : ServerState) (order : OrderValue) → 0 < left_of mid → GivesOut mid order → IsBefore (mid.turns + 1) mid.history
    → Gives (at_server s (with_turn (without_turn (TakeWork 0)) mid)) mid.turns (step_of mid (without_turn (TakeWork 0)))
gives_here s mid order some given before =
    let added : List Entry = added_by mid.settings mid.history (stamp_of (mid.turns + 1)) (without_turn (TakeWork 0)) in
    let own : AreOf (mid.turns + 1) added = added_of mid.settings mid.history (stamp_of (mid.turns + 1)) (without_turn (TakeWork 0)) in
    let at : at_turn (mid.turns + 1) (mid.history ++ added) ≡ mid.history = at_turn-new (mid.turns + 1) mid.history added before own in
    record {
      order = order;
      some = subst (λ h. 0 < left_all mid.settings.projects h) (sym at) some;
      turn = refl;
      call = refl;
      taken = taken_next s mid (without_turn (TakeWork 0)) before;
      given = ap (λ h. (reply_of mid.settings h (stamp_of (mid.turns + 1)) (without_turn (TakeWork 0))).body) at ∙ given;
    }

-- a bucket is worked
one_here : (s : Standing) (mid new : ServerState) (works : WorksBucket mid new) → 0 < left_of mid → IsBefore (mid.turns + 1) mid.history
    → WorksOne (at_server s new) mid.turns (bucket_steps mid new works)
unfolding gives_here
one_here s mid new works some before =
    let first : ServerState = with_turn (without_turn (TakeWork 0)) mid in
    let second : ServerState = with_turn (without_turn (Finish works.set)) first in
    let one = extends_one mid (without_turn (TakeWork 0)) in
    let more : List Entry = added_by first.settings first.history (stamp_of (first.turns + 1)) (without_turn (Finish works.set)) in
    let above : AreAbove first.turns more =
    above_of (first.turns + 1) first.turns more (omega arith) (added_of first.settings first.history (stamp_of (first.turns + 1)) (without_turn (Finish works.set))) in
    let after : IsBefore (first.turns + 1) first.history = one.earlier before in
    let here = gives_here s mid works.order some works.given before in
    let grown : Gives (at_server s second) mid.turns (step_of mid (without_turn (TakeWork 0))) =
    gives_grown (at_server s first) more second.turns mid.turns (step_of mid (without_turn (TakeWork 0))) here (let le : first.turns ≤ first.turns + 1 = omega arith in le) above in
    let whole : WorksOne (at_server s second) mid.turns (bucket_steps mid new works) = record {
      first = step_of mid (without_turn (TakeWork 0));
      second = step_of first (without_turn (Finish works.set));
      set = works.set;
      two = refl;
      gives = record {
        order = works.order;
        some = grown.some;
        turn = grown.turn;
        call = grown.call;
        taken = grown.taken;
        given = ap (λ es. (reply_of mid.settings es (stamp_of (mid.turns + 1)) (without_turn (TakeWork 0))).body)
            (at_turn-grown (mid.turns + 1) first.turns first.history more (let le : mid.turns + 1 ≤ mid.turns + 1 = omega arith in le) above)
            ∙ here.given;
      };
      found = works.found;
      turn = (let e : mid.turns + 1 + 1 ≡ mid.turns + 2 = omega arith in e);
      call = refl;
      taken = taken_next s first (without_turn (Finish works.set)) after;
    } in
    subst (λ (z : ServerState). WorksOne (at_server s z) mid.turns (bucket_steps mid new works)) (sym works.new_is) whole

-- more is done after buckets were worked
pub on_extended : (s : Standing) (old new : ServerState) (steps more : List Step) (last count : ℕ) → Extends old new more → WorksOn (at_server s old) last count steps
    → WorksOn (at_server s new) last count steps
on_extended s old new steps more last count e works =
    let turns : new.turns ≡ old.turns + length more = e.turns in
    let whole : WorksOn (record (at_server s old) { history = old.history ++ e.more; top = new.turns }) last count steps =
    on_grown (at_server s old) e.more new.turns last count steps works (let le : old.turns ≤ new.turns = omega (arith, turns) in le) e.above in
    let moved : WorksOn (record (at_server s old) { history = new.history; top = new.turns }) last count steps =
    subst (λ (h : List Entry). WorksOn (record (at_server s old) { history = h; top = new.turns }) last count steps) (sym e.history) whole in
    subst (λ k. WorksOn (record s { settings = k; history = new.history; top = new.turns }) last count steps) (sym e.settings) moved

-- so many buckets are worked
pub on_here : (s : Standing) (old : ServerState) (count : ℕ) (new : ServerState) (works : WorksTimes old count new) → IsBefore (old.turns + 1) old.history
    → WorksOn (at_server s new) old.turns count (times_steps old count new works)
unfolding times_steps
on_here s old zero new works before = refl
on_here s old (suc count) new works before =
    let mid : ServerState = works.0 in
    let earlier = times_extends old count mid works.1 in
    let turns : mid.turns ≡ old.turns + 2 * count = times_turns old count mid works.1 in (
      times_steps old count mid works.1,
      bucket_steps mid new works.3,
      refl,
      on_extended s mid new (times_steps old count mid works.1) (bucket_steps mid new works.3) old.turns count (bucket_extends mid new works.3)
          (on_here s old count mid works.1 before),
      subst (λ n. WorksOne (at_server s new) n (bucket_steps mid new works.3)) turns (one_here s mid new works.3 works.2 (earlier.earlier before)),
    )

-- how many buckets are left there
pub left_here : (s : Standing) (server : ServerState) → IsBefore (server.turns + 1) server.history → left_behind (at_server s server) server.turns ≡ left_of server
left_here s server before = ap (λ h. left_all server.settings.projects h) (at_whole (server.turns + 1) server.history before)

-- .. before a bucket was given out there
pub left_next : (s : Standing) (mid : ServerState) → IsBefore (mid.turns + 1) mid.history → left_behind (at_server s (with_turn (without_turn (TakeWork 0)) mid)) mid.turns ≡ left_of mid
left_next s mid before =
    ap (λ h. left_all mid.settings.projects h)
    (at_turn-new (mid.turns + 1) mid.history (added_by mid.settings mid.history (stamp_of (mid.turns + 1)) (without_turn (TakeWork 0))) before
    (added_of mid.settings mid.history (stamp_of (mid.turns + 1)) (without_turn (TakeWork 0))))

-- ---- work that stopped

-- the steps of work that stopped
pub part_steps : (mid later : ServerState) → WorksPart mid later → List Step
part_steps mid later (inl same) = []
part_steps mid later (inr given) = step_of mid (without_turn (TakeWork 0)) ∷ []

pub part_extends : (mid later : ServerState) (part : WorksPart mid later) → Extends mid later (part_steps mid later part)
unfolding part_steps
part_extends mid later (inl same) = extends_to mid mid later [] (extends_none mid) same
part_extends mid later (inr given) = extends_to mid (with_turn (without_turn (TakeWork 0)) mid) later (step_of mid (without_turn (TakeWork 0)) ∷ []) (extends_one mid (without_turn (TakeWork 0))) given.2

pub part_given : (s : Standing) (mid later : ServerState) (part : WorksPart mid later) → 0 < left_of mid → IsBefore (mid.turns + 1) mid.history
    → (part_steps mid later part ≡ []) ⊎ ((step : Step) × (part_steps mid later part ≡ step ∷ []) × Gives (at_server s later) mid.turns step)
unfolding part_steps
part_given s mid later (inl same) some before = inl refl
part_given s mid later (inr given) some before =
    inr (step_of mid (without_turn (TakeWork 0)), refl, subst (λ (z : ServerState). Gives (at_server s z) mid.turns (step_of mid (without_turn (TakeWork 0)))) (sym given.2) (gives_here s mid given.0 some given.1 before))

-- how many buckets were left where the work stopped
pub left_before : (s : Standing) (mid later : ServerState) → WorksPart mid later → IsBefore (mid.turns + 1) mid.history → left_behind (at_server s later) mid.turns ≡ left_of mid
left_before s mid later (inl same) before = subst (λ (z : ServerState). left_behind (at_server s z) mid.turns ≡ left_of mid) (sym same) (left_here s mid before)
left_before s mid later (inr given) before =
    subst (λ (z : ServerState). left_behind (at_server s z) mid.turns ≡ left_of mid) (sym given.2) (left_next s mid before)

-- ---- how many turns buckets take

worked_turns : (old new : ServerState) (count : ℕ) → WorksTimes old count new → new.turns ≡ old.turns + (count + count)
worked_turns old new zero same = let e : new.turns ≡ old.turns = ap (λ (s : ServerState). s.turns) same in omega (arith, e)
worked_turns old new (suc count) works =
    let before : works.0.turns ≡ old.turns + (count + count) = worked_turns old works.0 count works.1 in
    let two : new.turns ≡ works.0.turns + 1 + 1 = ap (λ (s : ServerState). s.turns) works.3.new_is in
    omega (arith, before, two)

-- as many buckets as 64 bits count can't be worked, since the turns fit 64 bits
pub all_worked : (old new : ServerState) → WorksUpTo 18446744073709551615 old new → new.turns < 18446744073709551616 → left_of new ≡ 0
all_worked old new works fits = dite (dec_le 18446744073709551615 works.count)
    (λ many. let turns : new.turns ≡ old.turns + (works.count + works.count) = worked_turns old new works.count works.worked in let bad : ⊥ = omega (arith, turns, many, fits) in absurd bad)
    (λ not. works.rest (let lt : works.count < 18446744073709551615 = omega arith in lt))
