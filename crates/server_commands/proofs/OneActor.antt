-- A caller alone goes on as a session's caller does.
use Rattle.std.proofs.Common.{◌≡◌, ◌⊎◌, ℕ, suc, ◌+◌, ◌*◌, ◌<◌, ◌≤◌, List, [], ◌∷◌, ◌++◌, length, Option, Result, Ok, Err, OnOk, OnErr, inr, refl, sym, ◌∙◌, ap, subst, arith, append-nil, append_assoc, length-append}
use Rattle.std.proofs.lemmas.List.Elements.{All-append}
use Rattle.std.specs.declared.alloc.AllocError.{AllocError}
use Rattle.book_turn.specs.Entries.{AllBefore, AllAfter}
use Rattle.book_history.specs.declared.limits.Settings.{Settings}
use Rattle.book_history.specs.declared.changes.Entry.{Entry}
use Rattle.book_history.specs.declared.requests.BookCall.{BookCall}
use Rattle.book_history.specs.History.{IsBefore}
use Rattle.book_history.specs.Requests.{reply_of, added_by}
use Rattle.book_history.specs.Runs.{Step, IsRun}
use Rattle.book_history.proofs.Histories.{AreAbove, one_none}
use Rattle.book_passes.specs.Lessons.{CallerSeen, TakesTurn, stamp_in, turn_of}
use Rattle.book_passes.specs.LessonLaws.{TakesCall}
use Rattle.book_passes.proofs.Learning.{added_all, learns_trans}
use Rattle.bim_session.specs.Works.{Standing, Works, WorksShort, Gives, IsEnough, left_behind, last_turn}
use Rattle.bim_session.specs.Talking.{BookReceipt}
use Rattle.bim_session.proofs.Sessions.{last_turn-append}
use Rattle.link_session.specs.Callers.{CallerLaws, WorksBehind, start_of}
use Rattle.server_commands.specs.inner.Turns.{ServerState, Calls, with_turn, stamp_of, left_of}
use Rattle.server_commands.specs.inner.BucketWork.{WorksAll, WorksSome}
use Rattle.server_commands.specs.inner.OneActor.{seen_alone, IsSettled, GoesAlone}
use Rattle.server_commands.proofs.Worked.{Extends, step_of, extends_none, extends_one, extends_on, times_steps, times_extends, times_turns, at_server, on_here, on_extended, left_here, part_steps, part_extends, part_given, left_before}

-- ---- entries

all_before : (turn : ℕ) (es : List Entry) → IsBefore turn es → AllBefore turn_of turn es
all_before turn [] before = tt
all_before turn (e ∷ es) before =
    (let lt : e.stamp.turn < turn = before 0 e (omega arith) in lt, all_before turn es (λ k d lt. before (suc k) d (omega (arith, lt))))

all_after : (turn : ℕ) (es : List Entry) → AreAbove turn es → AllAfter turn_of turn es
all_after turn [] above = tt
all_after turn (e ∷ es) above = (above.0, all_after turn es above.1)

-- ---- steps

-- steps of the book are steps of the caller
pub alone_of : (settings : Settings) (old new : ServerState) (steps : List Step) → IsSettled settings old → Extends old new steps
    → GoesAlone settings (seen_alone old) steps (seen_alone new)
alone_of settings old new steps ready e =
    let turns : new.turns ≡ old.turns + length steps = e.turns in
    record {
      learns = (
        e.more,
        record {
          keeps = record { number = refl; numbers = refl };
          seen = e.history;
          later = all_after old.turns e.more e.above;
          rises = (let le : old.turns ≤ new.turns = omega (arith, turns) in le);
          up_to = λ _. all_before (new.turns + 1) new.history (e.earlier ready.before);
        },
      );
      turns = turns;
      last = e.last;
      one_thread = e.one [] one_none;
      run = λ before run one count.
          subst (λ (s : Settings). IsRun s (before ++ steps) new.history) (e.settings ∙ ready.settings_are)
          (e.run before (subst (λ (s : Settings). IsRun s before old.history) (sym ready.settings_are) run) one count);
    }

-- the laws of a caller
pub laws_alone : (settings : Settings) (buckets : Option ℕ) → CallerLaws buckets (GoesAlone settings)
laws_alone settings buckets = record {
  goes_on = on_alone;
  learns = λ v w steps g. g.learns;
  in_step = λ v w steps g. inr g.last;
}
  where
    on_alone : (u v w : CallerSeen) (first second : List Step) → GoesAlone settings u first v → GoesAlone settings v second w → GoesAlone settings u (first ++ second) w
    on_alone u v w first second a b =
        let one : v.last ≡ u.last + length first = a.turns in
        let two : w.last ≡ v.last + length second = b.turns in
        let both : length (first ++ second) ≡ length first + length second = length-append first second in
        record {
          learns = (a.learns.0 ++ b.learns.0, learns_trans u v w a.learns.0 b.learns.0 a.learns.1 b.learns.1);
          turns = (let e : w.last ≡ u.last + length (first ++ second) = omega (arith, one, two, both) in e);
          last = b.last ∙ ap (λ n. last_turn n second) a.last ∙ sym (last_turn-append u.last first second);
          one_thread = All-append (λ (s : Step). s.stamp.pass ≡ 0) first second a.one_thread b.one_thread;
          run = λ before run alone count.
              let longer : length (before ++ first) ≡ length before + length first = length-append before first in
              subst (λ (ss : List Step). IsRun settings ss w.seen) (append_assoc before first second)
              (b.run (before ++ first) (a.run before run alone count) (All-append (λ (s : Step). s.stamp.pass ≡ 0) before first alone a.one_thread)
              (let e : length (before ++ first) ≡ v.last = omega (arith, longer, count, one) in e));
        }

-- ---- a call

-- the next turn is taken
takes_next : (s : ServerState) (call : BookCall) → IsBefore (s.turns + 1) s.history
    → TakesTurn (s.turns + 1) [] (added_by s.settings (s.history ++ []) (stamp_in (s.turns + 1) (seen_alone s)) call) (seen_alone s) (seen_alone (with_turn call s))
takes_next s call before = record {
  keeps = record { number = refl; numbers = refl };
  above = (let lt : s.turns < s.turns + 1 = omega arith in lt);
  last = refl;
  made = refl;
  seen = ap (λ (h : List Entry). h ++ added_by s.settings h (stamp_of (s.turns + 1)) call) (sym (append-nil s.history));
  since = tt;
  below = all_before (s.turns + 1) (s.history ++ []) (subst (λ (h : List Entry). IsBefore (s.turns + 1) h) (sym (append-nil s.history)) before);
  not_own = refl;
  in_turn = added_all s.settings (s.history ++ []) (s.turns + 1) (seen_alone s) call;
}

-- a call that was answered took its turn
pub taken_alone : (settings : Settings) (call : BookCall) (old new : ServerState) (receipt : BookReceipt) → IsSettled settings old → Calls call old (Ok receipt) new
    → TakesCall settings call receipt.turn receipt.reply (seen_alone old) (seen_alone new)
taken_alone settings call old new receipt ready calls =
    let own : TakesCall old.settings call (old.turns + 1) receipt.reply (seen_alone old) (seen_alone (with_turn call old)) = record {
      others = [];
      takes = takes_next old call ready.before;
      replied = calls.1 ∙ ap (λ (h : List Entry). reply_of old.settings h (stamp_of (old.turns + 1)) call) (sym (append-nil old.history));
    } in
    subst (λ (s : Settings). TakesCall s call receipt.turn receipt.reply (seen_alone old) (seen_alone new)) ready.settings_are
    (subst (λ (n : ℕ). TakesCall old.settings call n receipt.reply (seen_alone old) (seen_alone new)) (sym calls.0)
    (subst (λ (z : ServerState). TakesCall old.settings call (old.turns + 1) receipt.reply (seen_alone old) (seen_alone z)) (sym calls.2) own))

-- .. by its one step
pub went_alone : (settings : Settings) (call : BookCall) (old new : ServerState) (receipt : BookReceipt) → IsSettled settings old → Calls call old (Ok receipt) new
    → (let step : Step = record { stamp = stamp_in receipt.turn (seen_alone old); call = call } in GoesAlone settings (seen_alone old) (step ∷ []) (seen_alone new))
went_alone settings call old new receipt ready calls =
    subst (λ (n : ℕ). (let step : Step = record { stamp = stamp_in n (seen_alone old); call = call } in GoesAlone settings (seen_alone old) (step ∷ []) (seen_alone new))) (sym calls.0)
    (subst (λ (z : ServerState). GoesAlone settings (seen_alone old) (step_of old call ∷ []) (seen_alone z)) (sym calls.2)
    (alone_of settings old (with_turn call old) (step_of old call ∷ []) ready (extends_one old call)))

-- where nothing happens, it stays
pub stays_alone : (settings : Settings) (old new : ServerState) → IsSettled settings old → new ≡ old → GoesAlone settings (seen_alone old) [] (seen_alone new)
stays_alone settings old new ready same =
    subst (λ (z : ServerState). GoesAlone settings (seen_alone old) [] (seen_alone z)) (sym same) (alone_of settings old old [] ready (extends_none old))

-- ---- the work after an answer

-- a standing of the caller is one at the book
start_is : (settings : Settings) (buckets : Option ℕ) (old new : ServerState) → new.settings ≡ settings
    → at_server (start_of settings buckets (seen_alone old) (seen_alone new)) new ≡ start_of settings buckets (seen_alone old) (seen_alone new)
start_is settings buckets old new same = λ i. record (start_of settings buckets (seen_alone old) (seen_alone new)) { settings = same i }

-- the work was done
pub worked_alone : (settings : Settings) (buckets : Option ℕ) (old new : ServerState) → IsSettled settings old → WorksAll buckets old new
    → WorksBehind settings buckets (GoesAlone settings) (seen_alone old) (Ok tt) (seen_alone new)
worked_alone settings buckets old new ready works =
    let steps : List Step = times_steps old works.count new works.worked in
    let e = times_extends old works.count new works.worked in
    let s : Standing = start_of settings buckets (seen_alone old) (seen_alone new) in
    let turns : new.turns ≡ old.turns + 2 * works.count = times_turns old works.count new works.worked in
    let left : left_behind (at_server s new) (old.turns + 2 * works.count) ≡ left_of new =
    ap (λ n. left_behind (at_server s new) n) (sym turns) ∙ left_here s new (e.earlier ready.before) in
    let done : Works (at_server s new) steps = record {
      count = works.count;
      worked = on_here s old works.count new works.worked ready.before;
      enough = subst (λ n. IsEnough buckets works.count n) (sym left) works.enough;
    } in (
      steps,
      alone_of settings old new steps ready e,
      subst (λ (z : Standing). Works z steps) (start_is settings buckets old new (e.settings ∙ ready.settings_are)) done,
    )

-- memory ran out in it
pub stopped_alone : (settings : Settings) (buckets : Option ℕ) (old new : ServerState) (fault : AllocError) → IsSettled settings old → WorksSome buckets old new
    → WorksBehind settings buckets (GoesAlone settings) (seen_alone old) (Err fault) (seen_alone new)
stopped_alone settings buckets old new fault ready works =
    let mid : ServerState = works.mid in
    let earlier : List Step = times_steps old works.count mid works.worked in
    let more : List Step = part_steps mid new works.part in
    let first = times_extends old works.count mid works.worked in
    let second = part_extends mid new works.part in
    let e = extends_on old mid new earlier more first second in
    let s : Standing = start_of settings buckets (seen_alone old) (seen_alone new) in
    let turns : mid.turns ≡ old.turns + 2 * works.count = times_turns old works.count mid works.worked in
    let before : IsBefore (mid.turns + 1) mid.history = first.earlier ready.before in
    let short : WorksShort (at_server s new) (earlier ++ more) = record {
      count = works.count;
      earlier = earlier;
      more = more;
      steps_are = refl;
      worked = on_extended s mid new earlier more old.turns works.count second (on_here s old works.count mid works.worked ready.before);
      room = works.room;
      some = subst (λ n. 0 < n) (sym (ap (λ n. left_behind (at_server s new) n) (sym turns) ∙ left_before s mid new works.part before)) works.some;
      given = subst (λ n. (more ≡ []) ⊎ ((step : Step) × (more ≡ step ∷ []) × Gives (at_server s new) n step)) turns (part_given s mid new works.part works.some before);
    } in (
      earlier ++ more,
      alone_of settings old new (earlier ++ more) ready e,
      subst (λ (z : Standing). WorksShort z (earlier ++ more)) (start_is settings buckets old new (e.settings ∙ ready.settings_are)) short,
    )

pub works_alone : (settings : Settings) (buckets : Option ℕ) (old new : ServerState) (result : Result (Unit {0}) AllocError) → IsSettled settings old → OnOk result (WorksAll buckets old new)
    → OnErr result (WorksSome buckets old new) → WorksBehind settings buckets (GoesAlone settings) (seen_alone old) result (seen_alone new)
works_alone settings buckets old new (Ok u) ready whole some = worked_alone settings buckets old new ready whole
works_alone settings buckets old new (Err fault) ready whole some = stopped_alone settings buckets old new fault ready some
