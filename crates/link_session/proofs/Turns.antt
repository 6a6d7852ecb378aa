-- What a pass has come to know, with the steps of its session.
use Rattle.std.proofs.Common.{◌≡◌, ◌||◌, ℕ, ◌<◌, ◌≤◌, List, [], ◌∷◌, ◌++◌, true, false, if◌then◌else◌, Result, Ok, Err, inl, inr, refl, sym, ◌∙◌, ap, subst, arith, append_assoc, append-nil, eq-eqb}
use Rattle.book_turn.specs.declared.object.Stamp.{Stamp}
use Rattle.book_turn.specs.NumberLists.{has}
use Rattle.book_turn.specs.Entries.{AllAfter, calls_by, listed}
use Rattle.book_turn.proofs.Prefixes.{calls_by-append}
use Rattle.book_history.specs.declared.limits.Settings.{Settings}
use Rattle.book_history.specs.declared.changes.Entry.{Entry}
use Rattle.book_history.specs.declared.requests.BookCall.{BookCall}
use Rattle.book_history.specs.History.{of_turn, IsBefore}
use Rattle.book_history.specs.Requests.{Outcome, Refusal, Answer, Accepted, entry_by, outcome_in, added_by}
use Rattle.book_history.specs.Runs.{Step}
use Rattle.book_history.proofs.Histories.{AreOf, AreAbove, added_of, before_all, of_turn-grown, of_turn-new}
use Rattle.book_passes.specs.Lessons.{CallerSeen, TakesTurn, own_of, stamp_in, turn_of}
use Rattle.book_passes.proofs.Learning.{learns_none, learns_turn, learns_trans}
use Rattle.book_turn.specs.declared.call_fault.CallFault.{CallFault}
use Rattle.book_turn.specs.declared.call_fault.CallFault.TheVariants.{Memory, PassSpent}
use Rattle.bim_session.specs.Talking.{BookReceipt}
use Rattle.link_session.specs.Callers.{entries_of, AreBy, AreWithin, GoesByPass, Skips, Calls, steps_of}

-- ---- steps

by_append : (n : ℕ) (a b : List Step) → AreBy n a → AreBy n b → AreBy n (a ++ b)
by_append n [] b p q = q
by_append n (s ∷ ss) b p q = (p.0, by_append n ss b p.1 q)

within_append : (t : ℕ) (a b : List Step) → AreWithin t a → AreWithin t b → AreWithin t (a ++ b)
within_append t [] b p q = q
within_append t (s ∷ ss) b p q = (p.0, within_append t ss b p.1 q)

within_later : (s t : ℕ) (ss : List Step) → s ≤ t → AreWithin s ss → AreWithin t ss
within_later s t [] le are = tt
within_later s t (x ∷ xs) le are = (let here : x.stamp.turn ≤ s = are.0 in omega arith, within_later s t xs le are.1)

entries_append : (h : List Entry) (a b : List Step) → entries_of h (a ++ b) ≡ entries_of h a ++ entries_of h b
entries_append h [] b = refl
entries_append h (s ∷ ss) b = ap (λ es. of_turn s.stamp.turn h ++ es) (entries_append h ss b) ∙ sym (append_assoc (of_turn s.stamp.turn h) (entries_of h ss) (entries_of h b))

entries_grown : (h more : List Entry) (top : ℕ) (ss : List Step) → AreWithin top ss → AreAbove top more → entries_of (h ++ more) ss ≡ entries_of h ss
entries_grown h more top [] within above = refl
entries_grown h more top (s ∷ ss) within above =
    ap (λ es. es ++ entries_of (h ++ more) ss) (of_turn-grown s.stamp.turn top h more within.0 above)
    ∙ ap (λ es. of_turn s.stamp.turn h ++ es) (entries_grown h more top ss within.1 above)

pub above_all : (t : ℕ) (es : List Entry) → AllAfter turn_of t es → AreAbove t es
above_all t [] are = tt
above_all t (e ∷ es) are = (are.0, above_all t es are.1)

-- ---- the entries of a call

alone_has : (n : ℕ) → has n (n ∷ []) ≡ true
alone_has n = ap (λ b. b || false) (eq-eqb n n refl)

made_own : (stamp : Stamp) (o : Outcome) → calls_by (λ (e : Entry). e.stamp.pass) (stamp.pass ∷ []) (listed (entry_by stamp o)) ≡ listed (entry_by stamp o)
made_own stamp (Refusal fault) = refl
made_own stamp (Answer body) = refl
made_own stamp (Accepted number change) = ap (λ b. if b then listed (entry_by stamp (Accepted number change)) else []) (alone_has stamp.pass)

-- what a call adds is by its pass
added_own : (settings : Settings) (h : List Entry) (stamp : Stamp) (call : BookCall) (ps : List ℕ) → ps ≡ stamp.pass ∷ []
    → calls_by (λ (e : Entry). e.stamp.pass) ps (added_by settings h stamp call) ≡ added_by settings h stamp call
added_own settings h stamp call ps alone =
    subst (λ (qs : List ℕ). calls_by (λ (e : Entry). e.stamp.pass) qs (added_by settings h stamp call) ≡ added_by settings h stamp call) (sym alone)
    (made_own stamp (outcome_in settings h stamp.turn call))

-- ---- what is known

pub known_none : (v : CallerSeen) → v.numbers ≡ v.number ∷ [] → GoesByPass v [] v
known_none v alone = record {
  alone = alone;
  news = [];
  learns = learns_none v;
  by_pass = tt;
  within = tt;
  own = refl;
}

known_turn : (v w w' : CallerSeen) (steps first : List Step) (turn : ℕ) (others added : List Entry) → GoesByPass v steps w → TakesTurn turn others added w w'
    → own_of v added ≡ added → entries_of w'.seen first ≡ added → AreBy v.number first → AreWithin turn first → GoesByPass v (steps ++ first) w'
known_turn v w w' steps first turn others added k t mine entries by within =
    let above : w.last < turn = t.above in
    let last : w'.last ≡ turn = t.last in
    let lesson = learns_turn turn others added w w' t in
    let nothing : own_of v others ≡ [] = subst (λ (ps : List ℕ). calls_by (λ (e : Entry). e.stamp.pass) ps others ≡ []) k.learns.keeps.numbers t.not_own in
    let same : entries_of w'.seen steps ≡ entries_of w.seen steps =
    ap (λ h. entries_of h steps) lesson.seen ∙ entries_grown w.seen (others ++ added) w.last steps k.within (above_all w.last (others ++ added) lesson.later) in
    let own : own_of v (k.news ++ (others ++ added)) ≡ entries_of w.seen steps ++ added =
    calls_by-append (λ (e : Entry). e.stamp.pass) v.numbers k.news (others ++ added)
    ∙ ap (λ es. es ++ own_of v (others ++ added)) k.own
    ∙ ap (λ es. entries_of w.seen steps ++ es)
    (calls_by-append (λ (e : Entry). e.stamp.pass) v.numbers others added ∙ ap (λ es. es ++ own_of v added) nothing ∙ mine) in
    let whole : entries_of w'.seen (steps ++ first) ≡ entries_of w.seen steps ++ added =
    entries_append w'.seen steps first ∙ ap (λ es. es ++ entries_of w'.seen first) same ∙ ap (λ es. entries_of w.seen steps ++ es) entries in
    record {
      alone = k.alone;
      news = k.news ++ (others ++ added);
      learns = learns_trans v w w' k.news (others ++ added) k.learns lesson;
      by_pass = by_append v.number steps first k.by_pass by;
      within = within_append w'.last steps first (within_later w.last w'.last steps (omega arith) k.within)
          (subst (λ (n : ℕ). AreWithin n first) (sym last) within);
      own = own ∙ sym whole;
    }

-- no call was answered
pub known_skip : (v w w' : CallerSeen) (steps : List Step) → GoesByPass v steps w → Skips w w' → GoesByPass v steps w'
known_skip v w w' steps k (inl same) = subst (λ (x : CallerSeen). GoesByPass v steps x) (sym same) k
known_skip v w w' steps k (inr (turn, others, takes)) =
    subst (λ (ss : List Step). GoesByPass v ss w') (append-nil steps) (known_turn v w w' steps [] turn others [] k takes refl refl tt tt)

-- the step of a call in a turn
abbrev pub step_in : ℕ → CallerSeen → BookCall → Step
step_in turn w call = record { stamp = stamp_in turn w; call = call }

-- a call was answered
pub known_call : (settings : Settings) (v w w' : CallerSeen) (steps : List Step) (turn : ℕ) (call : BookCall) (others : List Entry) → GoesByPass v steps w
    → TakesTurn turn others (added_by settings (w.seen ++ others) (stamp_in turn w) call) w w' → GoesByPass v (steps ++ step_in turn w call ∷ []) w'
known_call settings v w w' steps turn call others k t =
    let h : List Entry = w.seen ++ others in
    let added : List Entry = added_by settings h (stamp_in turn w) call in
    let own : AreOf turn added = added_of settings h (stamp_in turn w) call in
    let before : IsBefore turn h = before_all turn h t.below in
    let entries : of_turn turn w'.seen ≡ added = ap (λ es. of_turn turn es) t.seen ∙ of_turn-new turn h added before own in
    let number : w.number ≡ v.number = k.learns.keeps.number in
    known_turn v w w' steps (step_in turn w call ∷ []) turn others added k t
    (added_own settings h (stamp_in turn w) call v.numbers (k.alone ∙ ap (λ n. n ∷ []) (sym number)))
    (append-nil (of_turn turn w'.seen) ∙ entries) (number, tt) ((let same : turn ≤ turn = omega arith in same), tt)

-- a call, answered or not
pub goes_call : (settings : Settings) (call : BookCall) (v : CallerSeen) (result : Result BookReceipt CallFault) (w : CallerSeen) → v.numbers ≡ v.number ∷ []
    → Calls settings call v result w → GoesByPass v (steps_of call v result) w
goes_call settings call v (Ok receipt) w alone calls = known_call settings v v w [] receipt.turn call calls.others (known_none v alone) calls.takes
goes_call settings call v (Err Memory) w alone skips = known_skip v v w [] (known_none v alone) skips
goes_call settings call v (Err (PassSpent pass)) w alone stays = subst (λ (x : CallerSeen). GoesByPass v [] x) (sym stays.1) (known_none v alone)

-- it goes on where it stopped
pub known_trans : (u v w : CallerSeen) (first second : List Step) → GoesByPass u first v → GoesByPass v second w → GoesByPass u (first ++ second) w
known_trans u v w first second a b =
    let number : v.number ≡ u.number = a.learns.keeps.number in
    let numbers : v.numbers ≡ u.numbers = a.learns.keeps.numbers in
    let pass : Entry → ℕ = λ (e : Entry). e.stamp.pass in
    let same : entries_of w.seen first ≡ entries_of v.seen first =
    ap (λ h. entries_of h first) b.learns.seen ∙ entries_grown v.seen b.news v.last first a.within (above_all v.last b.news b.learns.later) in
    let own : own_of u (a.news ++ b.news) ≡ entries_of v.seen first ++ entries_of w.seen second =
    calls_by-append pass u.numbers a.news b.news
    ∙ ap (λ es. es ++ own_of u b.news) a.own
    ∙ ap (λ es. entries_of v.seen first ++ es) (ap (λ (ps : List ℕ). calls_by pass ps b.news) (sym numbers) ∙ b.own) in
    let whole : entries_of w.seen (first ++ second) ≡ entries_of v.seen first ++ entries_of w.seen second =
    entries_append w.seen first second ∙ ap (λ es. es ++ entries_of w.seen second) same in
    record {
      alone = a.alone;
      news = a.news ++ b.news;
      learns = learns_trans u v w a.news b.news a.learns b.learns;
      by_pass = by_append u.number first second a.by_pass (subst (λ (n : ℕ). AreBy n second) number b.by_pass);
      within = within_append w.last first second (within_later v.last w.last first b.learns.rises a.within) b.within;
      own = own ∙ sym whole;
    }
