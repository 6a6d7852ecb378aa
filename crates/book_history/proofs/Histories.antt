-- How histories and runs grow.
use Rattle.std.proofs.Common.{◌≡◌, ◌+◌, ◌<◌, ◌≤◌, ◌==◌, nat_lt, zero, suc, ℕ, true, List, [], ◌∷◌, ◌++◌, length, filter, count_by, cond, Option, Some, None, refl, sym, ◌∙◌, ap, arith, append_assoc, append-nil}
use Rattle.std.proofs.lemmas.List.Elements.{filter-append, All-push}
use Rattle.std.proofs.lemmas.Bool.Decides.{nat_tests}
use Rattle.std.proofs.lemmas.Bool.{eq-eqb}
use Rattle.std.proofs.lemmas.List.Sums.{sum_by-cons}
use Rattle.book_turn.specs.declared.object.Stamp.{Stamp}
use Rattle.book_turn.specs.Entries.{listed, AllBefore}
use Rattle.book_history.specs.declared.changes.Entry.{Entry}
use Rattle.book_history.specs.declared.changes.Change.{Change}
use Rattle.book_history.specs.declared.limits.Settings.{Settings}
use Rattle.book_history.specs.declared.requests.BookCall.{BookCall}
use Rattle.book_history.specs.History.{at_turn, of_turn, IsBefore}
use Rattle.book_history.specs.Requests.{Outcome, Refusal, Answer, Accepted, added_by, entry_by, outcome_in}
use Rattle.book_history.specs.Runs.{Step, Follows, Runs, IsOneThread}

abbrev pub AreOf : ℕ → List Entry → Type 0
AreOf turn [] = Unit {0}
AreOf turn (e ∷ es) = (e.stamp.turn ≡ turn) × AreOf turn es

abbrev pub AreAbove : ℕ → List Entry → Type 0
AreAbove turn [] = Unit {0}
AreAbove turn (e ∷ es) = (turn < e.stamp.turn) × AreAbove turn es

made_of : (stamp : Stamp) (o : Outcome) → AreOf stamp.turn (listed (entry_by stamp o))
made_of stamp (Refusal f) = tt
made_of stamp (Answer body) = tt
made_of stamp (Accepted number change) = (refl, tt)

-- an added entry is of its call's turn
pub added_of : (settings : Settings) (h : List Entry) (stamp : Stamp) (call : BookCall) → AreOf stamp.turn (added_by settings h stamp call)
added_of settings h stamp call = made_of stamp (outcome_in settings h stamp.turn call)

pub above_of : (turn top : ℕ) (es : List Entry) → top < turn → AreOf turn es → AreAbove top es
above_of turn top [] lt are = tt
above_of turn top (e ∷ es) lt are = (let is : e.stamp.turn ≡ turn = are.0 in omega arith, above_of turn top es lt are.1)

at_none : (t top : ℕ) (es : List Entry) → t ≤ top → AreAbove top es → filter (λ (e : Entry). nat_lt e.stamp.turn t) es ≡ []
at_none t top [] le above = refl
at_none t top (e ∷ es) le above =
    let rest = at_none t top es le above.1 in
    let late : top < e.stamp.turn = above.0 in
    grind (arith, nat_tests, rest, late)

of_none : (t top : ℕ) (es : List Entry) → t ≤ top → AreAbove top es → filter (λ (e : Entry). e.stamp.turn == t) es ≡ []
of_none t top [] le above = refl
of_none t top (e ∷ es) le above =
    let rest = of_none t top es le above.1 in
    let late : top < e.stamp.turn = above.0 in
    grind (arith, nat_tests, rest, late)

tail_before : (t : ℕ) (e : Entry) (es : List Entry) → IsBefore t (e ∷ es) → IsBefore t es
tail_before t e es before = λ k d lt. before (suc k) d (omega arith)

at_all : (t : ℕ) (es : List Entry) → IsBefore t es → filter (λ (e : Entry). nat_lt e.stamp.turn t) es ≡ es
at_all t [] before = refl
at_all t (e ∷ es) before =
    let rest = at_all t es (tail_before t e es before) in
    let early : e.stamp.turn < t = before 0 e (omega arith) in
    grind (arith, nat_tests, rest, early)

of_before : (t : ℕ) (es : List Entry) → IsBefore t es → filter (λ (e : Entry). e.stamp.turn == t) es ≡ []
of_before t [] before = refl
of_before t (e ∷ es) before =
    let rest = of_before t es (tail_before t e es before) in
    let early : e.stamp.turn < t = before 0 e (omega arith) in
    grind (arith, nat_tests, rest, early)

at_own : (t : ℕ) (es : List Entry) → AreOf t es → filter (λ (e : Entry). nat_lt e.stamp.turn t) es ≡ []
at_own t [] are = refl
at_own t (e ∷ es) are =
    let rest = at_own t es are.1 in
    let is : e.stamp.turn ≡ t = are.0 in
    grind (arith, nat_tests, rest, is)

of_own : (t : ℕ) (es : List Entry) → AreOf t es → filter (λ (e : Entry). e.stamp.turn == t) es ≡ es
of_own t [] are = refl
of_own t (e ∷ es) are =
    let rest = of_own t es are.1 in
    let is : e.stamp.turn ≡ t = are.0 in
    grind (arith, nat_tests, rest, is)

-- what comes later changes nothing below an earlier turn, nor at it
pub at_turn-grown : (t top : ℕ) (h more : List Entry) → t ≤ top → AreAbove top more → at_turn t (h ++ more) ≡ at_turn t h
unfolding at_turn
at_turn-grown t top h more le above =
    filter-append (λ (e : Entry). nat_lt e.stamp.turn t) h more
    ∙ ap (λ es. filter (λ (e : Entry). nat_lt e.stamp.turn t) h ++ es) (at_none t top more le above)
    ∙ append-nil (filter (λ (e : Entry). nat_lt e.stamp.turn t) h)

pub of_turn-grown : (t top : ℕ) (h more : List Entry) → t ≤ top → AreAbove top more → of_turn t (h ++ more) ≡ of_turn t h
unfolding of_turn
of_turn-grown t top h more le above =
    filter-append (λ (e : Entry). e.stamp.turn == t) h more
    ∙ ap (λ es. filter (λ (e : Entry). e.stamp.turn == t) h ++ es) (of_none t top more le above)
    ∙ append-nil (filter (λ (e : Entry). e.stamp.turn == t) h)

-- at a new turn, the entries below it are those before, and those of it are the new ones
pub at_turn-new : (t : ℕ) (h more : List Entry) → IsBefore t h → AreOf t more → at_turn t (h ++ more) ≡ h
unfolding at_turn
at_turn-new t h more before own =
    filter-append (λ (e : Entry). nat_lt e.stamp.turn t) h more
    ∙ ap (λ es. es ++ filter (λ (e : Entry). nat_lt e.stamp.turn t) more) (at_all t h before)
    ∙ ap (λ es. h ++ es) (at_own t more own)
    ∙ append-nil h

pub of_turn-new : (t : ℕ) (h more : List Entry) → IsBefore t h → AreOf t more → of_turn t (h ++ more) ≡ more
unfolding of_turn
of_turn-new t h more before own =
    filter-append (λ (e : Entry). e.stamp.turn == t) h more
    ∙ ap (λ es. es ++ filter (λ (e : Entry). e.stamp.turn == t) more) (of_before t h before)
    ∙ of_own t more own

-- a run goes on by one more step
pub Runs_push : (settings : Settings) (done : List Step) (h : List Entry) (steps : List Step) (mid : List Entry) (s : Step) → Runs settings done h steps mid
    → Follows (done ++ steps) s → Runs settings done h (steps ++ s ∷ []) (mid ++ added_by settings mid s.stamp s.call)
Runs_push settings done h [] mid s runs follows = (
  rw (append-nil done) at follows,
  ap (λ es. es ++ added_by settings es s.stamp s.call) runs,
)
Runs_push settings done h (x ∷ xs) mid s runs follows = (
  runs.0,
  Runs_push settings (done ++ x ∷ []) (h ++ added_by settings h x.stamp x.call) xs mid s runs.1
      (let e : done ++ x ∷ xs ≡ (done ++ x ∷ []) ++ xs = sym (append_assoc done (x ∷ []) xs) in rw e at follows),
)

all_counted : (steps : List Step) → IsOneThread steps → count_by (λ (d : Step). d.stamp.pass == 0) steps ≡ length steps
all_counted [] one = refl
all_counted (s ∷ ss) one =
    let rest = all_counted ss (λ k d lt. one (suc k) d (omega arith)) in
    let pass : s.stamp.pass ≡ 0 = one 0 s (omega arith) in
    let here : (s.stamp.pass == 0) ≡ true = eq-eqb s.stamp.pass 0 pass in
    let more = sum_by-cons (λ (d : Step). cond (d.stamp.pass == 0) 1 0) s ss in
    more ∙ rw (here, rest) (omega arith)

-- the next step of the one-thread server
pub follows_one : (steps : List Step) (s : Step) (n : ℕ) → IsOneThread steps → length steps ≡ n → s.stamp ≡ record { turn = n + 1; pass = 0; call = n + 1 } → Follows steps s
follows_one steps s n one count is =
    let counted = all_counted steps one in
    let pass : s.stamp.pass ≡ 0 = ap (λ (t : Stamp). t.pass) is in
    record {
      turn = ap (λ (t : Stamp). t.turn) is ∙ ap (λ k. k + 1) (sym count);
      call = ap (λ (t : Stamp). t.call) is ∙ ap (λ k. k + 1) (sym count ∙ sym counted) ∙ ap (λ p. count_by (λ (d : Step). d.stamp.pass == p) steps + 1) (sym pass);
    }

pub one_push : (steps : List Step) (s : Step) → IsOneThread steps → s.stamp.pass ≡ 0 → IsOneThread (steps ++ s ∷ [])
one_push steps s one pass = All-push (λ (t : Step). t.stamp.pass ≡ 0) steps s one pass

pub none_before : (t : ℕ) → IsBefore t []
none_before t = λ k d lt. absurd (omega arith)

pub one_none : IsOneThread []
one_none = λ k d lt. absurd (omega arith)

before_cons : (t : ℕ) (e : Entry) (es : List Entry) → e.stamp.turn < t → IsBefore t es → IsBefore t (e ∷ es)
before_cons t e es first rest zero d lt = first
before_cons t e es first rest (suc k) d lt = rest k d (omega arith)

-- entries of earlier turns, said as for any object whose calls take turns
pub before_all : (t : ℕ) (es : List Entry) → AllBefore (λ (e : Entry). e.stamp.turn) t es → IsBefore t es
before_all t [] after = none_before t
before_all t (e ∷ es) after = before_cons t e es after.0 (before_all t es after.1)
