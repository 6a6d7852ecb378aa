-- How a session grows by one more event, and its history by more steps.
use Rattle.std.proofs.Common.{◌≡◌, ◌⊎◌, ℕ, zero, suc, ◌+◌, ◌*◌, ◌<◌, ◌≤◌, List, [], ◌∷◌, ◌++◌, filter, nat_lt, Some, true, false, inl, inr, sym, ◌∙◌, ap, subst, refl, append_assoc, append-nil, add_assoc, arith}
use Rattle.std.proofs.lemmas.List.Elements.{filter-append}
use Rattle.std.proofs.lemmas.Bool.Decides.{nat_tests}
use Rattle.http_frame.specs.Events.{Event}
use Rattle.http_frame.specs.Events as frame
use Rattle.book_history.specs.declared.limits.Settings.{Settings}
use Rattle.book_history.specs.declared.changes.Entry.{Entry}
use Rattle.book_turn.specs.declared.object.Stamp.{Stamp}
use Rattle.book_history.specs.History.{at_turn, of_turn, newest_of, left_all, IsBefore}
use Rattle.book_history.specs.Requests.{reply_of, added_by}
use Rattle.book_history.specs.Runs.{Step}
use Rattle.book_history.proofs.Histories.{AreAbove, AreOf, added_of, at_turn-grown, of_turn-grown, at_turn-new, of_turn-new}
use Rattle.bcf_http.specs.declared.answers.Answer.TheVariants as answer
use Rattle.bim_session.specs.Works.{Standing, Printed, IsTaken, Gives, WorksOne, WorksOn, Works, IsEnough, left_behind, last_turn}
use Rattle.bim_session.specs.Session.{Asking, asking, TakesTurn, IsResponseTo, kept_call, IsKept, IsShelved, IsBooked, TakesIdly, up_to_printed, printed_after, Answers, AnswersEvent, WorksBehind, AnswersFirst, Answered, answer_by, counted, requests, closes, is_closed, past, behind}
use Rattle.bim_session.proofs.Reading.{or_false}

-- ---- later entries

none_up_to : (t top : ℕ) (es : List Entry) → t ≤ top + 1 → AreAbove top es → filter (λ (e : Entry). nat_lt e.stamp.turn t) es ≡ []
none_up_to t top [] le above = refl
none_up_to t top (e ∷ es) le above =
    let rest = none_up_to t top es le above.1 in
    let late : top < e.stamp.turn = above.0 in
    grind (arith, nat_tests, rest, late, le)

-- what comes later changes nothing of the entries up to an earlier turn
pub up_to_grown : (turn top : ℕ) (h more : List Entry) → turn ≤ top → AreAbove top more → at_turn (turn + 1) (h ++ more) ≡ at_turn (turn + 1) h
unfolding at_turn
up_to_grown turn top h more le above =
    let le' : turn + 1 ≤ top + 1 = omega (arith, le) in
    filter-append (λ (e : Entry). nat_lt e.stamp.turn (turn + 1)) h more
    ∙ ap (λ es. filter (λ (e : Entry). nat_lt e.stamp.turn (turn + 1)) h ++ es) (none_up_to (turn + 1) top more le' above)
    ∙ append-nil (filter (λ (e : Entry). nat_lt e.stamp.turn (turn + 1)) h)

-- the same standing, where the history went on by these entries and turns up to a later one were taken
abbrev pub grown : List Entry → ℕ → Standing → Standing
grown more top s = record s { history = s.history ++ more; top = top }

abbrev pub grown_asking : List Entry → ℕ → Asking → Asking
grown_asking more top a = record a { standing = grown more top a.standing }

-- later entries change nothing of a step up to the last turn before them
pub taken_grown : (s : Standing) (more : List Entry) (top : ℕ) (step : Step) → IsTaken s step → s.top ≤ top → AreAbove s.top more → IsTaken (grown more top s) step
taken_grown s more top step t le above =
    let within : step.stamp.turn ≤ s.top = t.within in
    record {
      within = (let later : step.stamp.turn ≤ top = omega arith in later);
      entry = of_turn-grown step.stamp.turn s.top s.history more within above ∙ t.entry
          ∙ ap (λ es. added_by s.settings es step.stamp step.call) (sym (at_turn-grown step.stamp.turn s.top s.history more within above));
    }

turn_grown : (a : Asking) (more : List Entry) (top : ℕ) (steps : List Step) → TakesTurn a steps → a.standing.top ≤ top → AreAbove a.standing.top more
    → TakesTurn (grown_asking more top a) steps
turn_grown a more top steps t le above = record {
  step = t.step;
  one = t.one;
  above = t.above;
  means = t.means;
  taken = taken_grown a.standing more top t.step t.taken le above;
}

-- .. nor of what was printed before them
printed_grown : (s : Standing) (more : List Entry) (top : ℕ) → s.printed.turn ≤ s.top → AreAbove s.top more
    → up_to_printed (grown more top s) ≡ up_to_printed s
printed_grown s more top le above = up_to_grown s.printed.turn s.top s.history more le above

-- a request asks for clashes that are kept whatever comes later
kept_grown : (a : Asking) (more : List Entry) (top : ℕ) → a.standing.printed.turn ≤ a.standing.top → AreAbove a.standing.top more → IsKept a
    → IsKept (grown_asking more top a)
kept_grown a more top le above k = record {
  seen = k.seen;
  id = k.id;
  project = k.project;
  version = k.version;
  first = k.first;
  count = k.count;
  means = k.means;
  up_to = k.up_to;
  named = k.named;
  answered = k.answered;
  live = subst (λ (es : List Entry). newest_of k.project es < k.version + 16) (sym (printed_grown a.standing more top le above)) k.live;
}

pub kept_before : (a : Asking) (more : List Entry) (top : ℕ) → a.standing.printed.turn ≤ a.standing.top → AreAbove a.standing.top more
    → IsKept (grown_asking more top a) → IsKept a
kept_before a more top le above k = record {
  seen = k.seen;
  id = k.id;
  project = k.project;
  version = k.version;
  first = k.first;
  count = k.count;
  means = k.means;
  up_to = k.up_to;
  named = k.named;
  answered = k.answered;
  live = subst (λ (es : List Entry). newest_of k.project es < k.version + 16) (printed_grown a.standing more top le above) k.live;
}

shelved_grown : (a : Asking) (more : List Entry) (top : ℕ) (bytes : List ℕ) (steps : List Step) (printed : Printed) → IsShelved a bytes steps printed
    → a.standing.printed.turn ≤ a.standing.top → AreAbove a.standing.top more → IsShelved (grown_asking more top a) bytes steps printed
unfolding kept_grown
shelved_grown a more top bytes steps printed s le above = record {
  kept = kept_grown a more top le above s.kept;
  response = λ (stamp : Stamp) next.
      subst (λ (es : List Entry). IsResponseTo a
      (answer.Book (reply_of a.standing.settings es stamp (kept_call s.kept.seen s.kept.id s.kept.version s.kept.first s.kept.count)))
      (Some a.standing.printed.turn) bytes)
      (sym (printed_grown a.standing more top le above)) (s.response stamp next);
  none = s.none;
  printed_is = s.printed_is;
}

booked_grown : (a : Asking) (more : List Entry) (top : ℕ) (bytes : List ℕ) (steps : List Step) (printed : Printed) → IsBooked a bytes steps printed → a.standing.printed.turn ≤ a.standing.top
    → a.standing.top ≤ top → AreAbove a.standing.top more → IsBooked (grown_asking more top a) bytes steps printed
unfolding turn_grown
booked_grown a more top bytes steps printed b le up above = record {
  unkept = λ kept. b.unkept (kept_before a more top le above kept);
  taken = turn_grown a more top steps b.taken up above;
  listing = b.listing;
  lists = b.lists;
  response = subst (λ (es : List Entry). IsResponseTo a (answer_by b.listing (reply_of a.standing.settings es b.taken.step.stamp b.taken.step.call)) (Some b.taken.step.stamp.turn) bytes)
      (sym (at_turn-grown b.taken.step.stamp.turn a.standing.top a.standing.history more b.taken.taken.within above)) b.response;
  above = b.above;
  printed_is = b.printed_is
      ∙ ap (λ (es : List Entry). printed_after b.taken.step (reply_of a.standing.settings es b.taken.step.stamp b.taken.step.call) a.standing.printed)
      (sym (at_turn-grown b.taken.step.stamp.turn a.standing.top a.standing.history more b.taken.taken.within above));
}

idly_grown : (a : Asking) (more : List Entry) (top : ℕ) (steps : List Step) → TakesIdly a steps → a.standing.top ≤ top → AreAbove a.standing.top more
    → TakesIdly (grown_asking more top a) steps
unfolding turn_grown
idly_grown a more top steps t le above = record {
  taken = turn_grown a more top steps t.taken le above;
  idle = of_turn-grown t.taken.step.stamp.turn a.standing.top a.standing.history more t.taken.taken.within above ∙ t.idle;
}

answers_grown : (a : Asking) (more : List Entry) (top : ℕ) (bytes : List ℕ) (steps : List Step) (printed : Printed) → Answers a bytes steps printed
    → a.standing.printed.turn ≤ a.standing.top → a.standing.top ≤ top → AreAbove a.standing.top more → Answers (grown_asking more top a) bytes steps printed
answers_grown a more top bytes steps printed (inl plain) le up above =
    inl (record { refusal = plain.refusal; refused = plain.refused; response = plain.response; none = plain.none; printed_is = plain.printed_is })
answers_grown a more top bytes steps printed (inr (inl shelved)) le up above = inr (inl (shelved_grown a more top bytes steps printed shelved le above))
answers_grown a more top bytes steps printed (inr (inr (inl booked))) le up above = inr (inr (inl (booked_grown a more top bytes steps printed booked le up above)))
answers_grown a more top bytes steps printed (inr (inr (inr lacks))) le up above =
    inr (inr (inr (record { response = lacks.response; idle = idle_grown lacks.idle; printed_is = lacks.printed_is })))
  where
    idle_grown : (steps ≡ []) ⊎ TakesIdly a steps → (steps ≡ []) ⊎ TakesIdly (grown_asking more top a) steps
    idle_grown (inl none) = inl none
    idle_grown (inr idly) = inr (idly_grown a more top steps idly up above)

pub event_grown : (s : Standing) (more : List Entry) (top : ℕ) (event : Event) (moments bytes : List ℕ) (steps : List Step) (printed : Printed)
    → AnswersEvent s event moments bytes steps printed → s.printed.turn ≤ s.top → s.top ≤ top → AreAbove s.top more
    → AnswersEvent (grown more top s) event moments bytes steps printed
event_grown s more top frame.continue moments bytes steps printed answers le up above = answers
event_grown s more top (frame.request r) moments bytes steps printed answers le up above =
    (answers.0, answers.1, answers_grown (asking s answers.0 r) more top bytes steps printed answers.2 le up above)

-- the turn that is printed last isn't above the top
answers_printed : (a : Asking) (bytes : List ℕ) (steps : List Step) (printed : Printed) → Answers a bytes steps printed → a.standing.printed.turn ≤ a.standing.top
    → printed.turn ≤ a.standing.top
answers_printed a bytes steps printed (inl plain) le = rw plain.printed_is le
answers_printed a bytes steps printed (inr (inl shelved)) le = rw shelved.printed_is le
answers_printed a bytes steps printed (inr (inr (inl booked))) le = rw booked.printed_is booked.taken.taken.within
answers_printed a bytes steps printed (inr (inr (inr lacks))) le = rw lacks.printed_is le

pub event_printed : (s : Standing) (event : Event) (moments bytes : List ℕ) (steps : List Step) (printed : Printed) → AnswersEvent s event moments bytes steps printed
    → s.printed.turn ≤ s.top → printed.turn ≤ s.top
event_printed s frame.continue moments bytes steps printed answers le = rw answers.3 le
event_printed s (frame.request r) moments bytes steps printed answers le = answers_printed (asking s answers.0 r) bytes steps printed answers.2 le

-- ---- later entries and the work on buckets

left_grown : (s : Standing) (more : List Entry) (top turn : ℕ) → turn ≤ s.top → AreAbove s.top more → left_behind (grown more top s) turn ≡ left_behind s turn
left_grown s more top turn le above = ap (λ es. left_all s.settings.projects es) (up_to_grown turn s.top s.history more le above)

pub gives_grown : (s : Standing) (more : List Entry) (top last : ℕ) (step : Step) → Gives s last step → s.top ≤ top → AreAbove s.top more → Gives (grown more top s) last step
gives_grown s more top last step g le above =
    let within : step.stamp.turn ≤ s.top = g.taken.within in
    let turn : step.stamp.turn ≡ last + 1 = g.turn in
    let before : last ≤ s.top = omega (arith, within, turn) in
    record {
      order = g.order;
      some = subst (λ n. 0 < n) (sym (left_grown s more top last before above)) g.some;
      turn = turn;
      call = g.call;
      taken = taken_grown s more top step g.taken le above;
      given = ap (λ es. (reply_of s.settings es step.stamp step.call).body) (at_turn-grown step.stamp.turn s.top s.history more within above) ∙ g.given;
    }

pub one_grown : (s : Standing) (more : List Entry) (top last : ℕ) (steps : List Step) → WorksOne s last steps → s.top ≤ top → AreAbove s.top more → WorksOne (grown more top s) last steps
unfolding gives_grown
one_grown s more top last steps w le above = record {
  first = w.first;
  second = w.second;
  set = w.set;
  two = w.two;
  gives = gives_grown s more top last w.first w.gives le above;
  found = w.found;
  turn = w.turn;
  call = w.call;
  taken = taken_grown s more top w.second w.taken le above;
}

pub on_grown : (s : Standing) (more : List Entry) (top last count : ℕ) (steps : List Step) → WorksOn s last count steps → s.top ≤ top → AreAbove s.top more
    → WorksOn (grown more top s) last count steps
on_grown s more top last zero steps works le above = works
on_grown s more top last (suc count) steps works le above =
    (works.0, works.1, works.2, on_grown s more top last count works.0 works.3 le above, one_grown s more top (last + 2 * count) works.1 works.4 le above)

-- the turns of buckets that were worked
on_within : (s : Standing) (last count : ℕ) (steps : List Step) → last ≤ s.top → WorksOn s last count steps → last + 2 * count ≤ s.top
on_within s last zero steps le works = omega (arith, le)
on_within s last (suc count) steps le works =
    let one = works.4 in
    let within : one.second.stamp.turn ≤ s.top = one.taken.within in
    let turn : one.second.stamp.turn ≡ last + 2 * count + 2 = one.turn in
    omega (arith, within, turn)

works_grown : (s : Standing) (more : List Entry) (top : ℕ) (steps : List Step) → s.last ≤ s.top → Works s steps → s.top ≤ top → AreAbove s.top more → Works (grown more top s) steps
works_grown s more top steps last works le above =
    let within : s.last + 2 * works.count ≤ s.top = on_within s s.last works.count steps last works.worked in
    record {
      count = works.count;
      worked = on_grown s more top s.last works.count steps works.worked le above;
      enough = subst (λ n. IsEnough s.buckets works.count n) (sym (left_grown s more top (s.last + 2 * works.count) within above)) works.enough;
    }

behind_grown : (s : Standing) (more : List Entry) (top : ℕ) (event : Event) (steps : List Step) → s.last ≤ s.top → WorksBehind s event steps → s.top ≤ top → AreAbove s.top more
    → WorksBehind (grown more top s) event steps
behind_grown s more top frame.continue steps last works le above = works
behind_grown s more top (frame.request r) steps last works le above = works_grown s more top steps last works le above

-- ---- the last turn

pub last_turn-append : (last : ℕ) (a b : List Step) → last_turn last (a ++ b) ≡ last_turn (last_turn last a) b
last_turn-append last [] b = refl
last_turn-append last (s ∷ ss) b = last_turn-append s.stamp.turn ss b

-- the last turn of buckets that were worked
pub on_last : (s : Standing) (last count : ℕ) (steps : List Step) → WorksOn s last count steps → last_turn last steps ≡ last + 2 * count
on_last s last zero steps works = ap (last_turn last) works ∙ (let e : last ≡ last + 2 * 0 = omega arith in e)
on_last s last (suc count) steps works =
    let one = works.4 in
    let turn : one.second.stamp.turn ≡ last + 2 * count + 2 = one.turn in
    ap (last_turn last) works.2 ∙ last_turn-append last works.0 works.1 ∙ ap (last_turn (last_turn last works.0)) one.two
    ∙ turn ∙ (let e : last + 2 * count + 2 ≡ last + 2 * (suc count) = omega arith in e)

turn_last : (a : Asking) (steps : List Step) → TakesTurn a steps → last_turn a.standing.last steps ≤ a.standing.top
turn_last a steps t = rw t.one t.taken.within

answers_last : (a : Asking) (bytes : List ℕ) (steps : List Step) (printed : Printed) → Answers a bytes steps printed → a.standing.last ≤ a.standing.top
    → last_turn a.standing.last steps ≤ a.standing.top
answers_last a bytes steps printed (inl plain) le = rw plain.none le
answers_last a bytes steps printed (inr (inl shelved)) le = rw shelved.none le
answers_last a bytes steps printed (inr (inr (inl booked))) le = turn_last a steps booked.taken
answers_last a bytes steps printed (inr (inr (inr lacks))) le = idle_last lacks.idle
  where
    idle_last : (steps ≡ []) ⊎ TakesIdly a steps → last_turn a.standing.last steps ≤ a.standing.top
    idle_last (inl none) = rw none le
    idle_last (inr idly) = turn_last a steps idly.taken

pub event_last : (s : Standing) (event : Event) (moments bytes : List ℕ) (steps : List Step) (printed : Printed) → AnswersEvent s event moments bytes steps printed → s.last ≤ s.top
    → last_turn s.last steps ≤ s.top
event_last s frame.continue moments bytes steps printed answers le = rw answers.2 le
event_last s (frame.request r) moments bytes steps printed answers le = answers_last (asking s answers.0 r) bytes steps printed answers.2 le

behind_last : (s : Standing) (event : Event) (steps : List Step) → WorksBehind s event steps → s.last ≤ s.top → last_turn s.last steps ≤ s.top
behind_last s frame.continue steps works le = rw works le
behind_last s (frame.request r) steps works le =
    let within = on_within s s.last works.count steps le works.worked in
    let last = on_last s s.last works.count steps works.worked in
    rw last within

-- the first of some answered events, with the work after it, took no turn above the top
first_last : (s : Standing) (event : Event) (events : List Event) (moments out : List ℕ) (steps : List Step) (first : AnswersFirst s event events moments out steps)
    → s.last ≤ s.top → last_turn s.last (first.own ++ first.work) ≤ s.top
first_last s event events moments out steps first le =
    let own = event_last s event first.asked first.bytes first.own first.printed first.answers le in
    let work = behind_last (past s event first.own first.printed) event first.work first.works own in
    rw (last_turn-append s.last first.own first.work) work

first_grown : (s : Standing) (more : List Entry) (top : ℕ) (event : Event) (events : List Event) (moments out : List ℕ) (steps : List Step)
    → AnswersFirst s event events moments out steps → s.last ≤ s.top → s.printed.turn ≤ s.top → s.top ≤ top → AreAbove s.top more
    → AnswersFirst (grown more top s) event events moments out steps
first_grown s more top event events moments out steps first last le up above = record {
  asked = first.asked;
  after = first.after;
  bytes = first.bytes;
  later = first.later;
  own = first.own;
  work = first.work;
  others = first.others;
  printed = first.printed;
  moments_are = first.moments_are;
  out_is = first.out_is;
  steps_are = first.steps_are;
  answers = event_grown s more top event first.asked first.bytes first.own first.printed first.answers le up above;
  works = behind_grown (past s event first.own first.printed) more top event first.work
      (event_last s event first.asked first.bytes first.own first.printed first.answers last) first.works up above;
  closing = first.closing;
}

pub Answered_grown : (s : Standing) (more : List Entry) (top : ℕ) (events : List Event) (moments out : List ℕ) (steps : List Step) (printed : Printed)
    → Answered s events moments out steps printed → s.last ≤ s.top → s.printed.turn ≤ s.top → s.top ≤ top → AreAbove s.top more
    → Answered (grown more top s) events moments out steps printed
unfolding first_grown
Answered_grown s more top [] moments out steps printed answered last le up above = answered
Answered_grown s more top (event ∷ events) moments out steps printed answered last le up above =
    let first = answered.0 in (
      first_grown s more top event events moments out steps answered.0 last le up above,
      Answered_grown (past s event (first.own ++ first.work) first.printed) more top events first.after first.later first.others printed answered.1
          (first_last s event events moments out steps first last) (event_printed s event first.asked first.bytes first.own first.printed first.answers le) up above,
    )

-- the answered events took no turn above the top
pub answered_last : (s : Standing) (events : List Event) (moments out : List ℕ) (steps : List Step) (printed : Printed) → Answered s events moments out steps printed → s.last ≤ s.top
    → last_turn s.last steps ≤ s.top
answered_last s [] moments out steps printed answered le = rw answered.2 le
answered_last s (event ∷ events) moments out steps printed answered le =
    let first = answered.0 in
    let rest = answered_last (past s event (first.own ++ first.work) first.printed) events first.after first.later first.others printed answered.1
    (first_last s event events moments out steps first le) in
    rw (first.steps_are, sym (append_assoc first.own first.work first.others), last_turn-append s.last (first.own ++ first.work) first.others) rest

-- ---- one more event

same_standing : (s : Standing) (l k : ℕ) (p q : Printed) (n m : ℕ) → l ≡ k → p ≡ q → n ≡ m
    → (let a : Standing = record s { last = l; printed = p; served = n } in a) ≡ record s { last = k; printed = q; served = m }
same_standing s l k p q n m e c d = λ i. record s { last = e i; printed = c i; served = d i }

behind_none : (s : Standing) (steps : List Step) (printed : Printed) → steps ≡ [] → printed ≡ s.printed → behind s [] steps printed ≡ s
behind_none s steps printed none same =
    same_standing s (last_turn s.last steps) s.last printed s.printed (s.served + 0) s.served (ap (λ ss. last_turn s.last ss) none) same (omega arith)

behind_past : (s : Standing) (event : Event) (events : List Event) (steps own others : List Step) (first printed : Printed) → steps ≡ own ++ others
    → behind s (event ∷ events) steps printed ≡ behind (past s event own first) events others printed
behind_past s event events steps own others first printed are =
    same_standing s (last_turn s.last steps) (last_turn (last_turn s.last own) others) printed printed (s.served + (counted event + requests events))
    (s.served + counted event + requests events) (ap (λ ss. last_turn s.last ss) are ∙ last_turn-append s.last own others) refl
    (sym (add_assoc s.served (counted event) (requests events)))

-- one more event is answered after the others, after which the connection was not closed, and the work after it is done
pub Answered_push : (s : Standing) (events : List Event) (moments out : List ℕ) (steps : List Step) (printed : Printed)
    (event : Event) (asked bytes : List ℕ) (own work : List Step) (last : Printed)
    → Answered s events moments out steps printed → is_closed s.served events ≡ false → AnswersEvent (behind s events steps printed) event asked bytes own last
    → WorksBehind (past (behind s events steps printed) event own last) event work
    → Answered s (events ++ event ∷ []) (moments ++ asked) (out ++ bytes) (steps ++ (own ++ work)) last
Answered_push s [] moments out steps printed event asked bytes own work last answered open_ one works =
    let here : behind s [] steps printed ≡ s = behind_none s steps printed answered.2 answered.3 in (
      record {
        asked = asked;
        after = [];
        bytes = bytes;
        later = [];
        own = own;
        work = work;
        others = [];
        printed = last;
        moments_are = rw answered.0 (sym (append-nil asked));
        out_is = rw answered.1 (sym (append-nil bytes));
        steps_are = rw answered.2 (ap (λ w. own ++ w) (sym (append-nil work)));
        answers = subst (λ (z : Standing). AnswersEvent z event asked bytes own last) here one;
        works = subst (λ (z : Standing). WorksBehind (past z event own last) event work) here works;
        closing = λ closing. refl;
      },
      (refl, refl, refl, refl),
    )
Answered_push s (q ∷ events) moments out steps printed event asked bytes own work last answered open_ one works =
    let parts = or_false (closes s.served q) (is_closed (s.served + counted q) events) open_ in
    let first = answered.0 in
    let are : steps ≡ (first.own ++ first.work) ++ first.others = first.steps_are ∙ sym (append_assoc first.own first.work first.others) in
    let same : behind s (q ∷ events) steps printed ≡ behind (past s q (first.own ++ first.work) first.printed) events first.others printed =
    behind_past s q events steps (first.own ++ first.work) first.others first.printed printed are in (
      record {
        asked = first.asked;
        after = first.after ++ asked;
        bytes = first.bytes;
        later = first.later ++ bytes;
        own = first.own;
        work = first.work;
        others = first.others ++ (own ++ work);
        printed = first.printed;
        moments_are = ap (λ l. l ++ asked) first.moments_are ∙ append_assoc first.asked first.after asked;
        out_is = ap (λ b. b ++ bytes) first.out_is ∙ append_assoc first.bytes first.later bytes;
        steps_are = ap (λ b. b ++ (own ++ work)) first.steps_are ∙ append_assoc first.own (first.work ++ first.others) (own ++ work)
            ∙ ap (λ b. first.own ++ b) (append_assoc first.work first.others (own ++ work));
        answers = first.answers;
        works = first.works;
        closing = λ closing. absurd (let e : true ≡ false = sym closing ∙ parts.0 in cc);
      },
      Answered_push (past s q (first.own ++ first.work) first.printed) events first.after first.later first.others printed event asked bytes own work last answered.1 parts.1
          (subst (λ (z : Standing). AnswersEvent z event asked bytes own last) same one)
          (subst (λ (z : Standing). WorksBehind (past z event own last) event work) same works),
    )

-- ---- the next step of a history

-- the entries of the next step are those that its request adds
pub entry_new : (settings : Settings) (history : List Entry) (step : Step) → IsBefore step.stamp.turn history
    → (let more : List Entry = history ++ added_by settings history step.stamp step.call in
    of_turn step.stamp.turn more ≡ added_by settings (at_turn step.stamp.turn more) step.stamp step.call)
entry_new settings history step before =
    let added : List Entry = added_by settings history step.stamp step.call in
    let own : AreOf step.stamp.turn added = added_of settings history step.stamp step.call in
    of_turn-new step.stamp.turn history added before own
    ∙ ap (λ es. added_by settings es step.stamp step.call) (sym (at_turn-new step.stamp.turn history added before own))
