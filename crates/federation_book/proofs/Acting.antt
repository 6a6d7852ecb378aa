-- The journal after a call, and what was given out before it.
use Rattle.std.proofs.Common.{◌≡◌, ◌+◌, ◌<◌, ◌≤◌, ℕ, List, [], ◌∷◌, ◌++◌, length, Option, Result, Ok, Err, sym, ◌∙◌, ap, subst, arith}
use Rattle.std.specs.Option.{IfSome}
use Rattle.std.specs.Result.{IfOk, OnOk, OnErr}
use Rattle.std.proofs.lemmas.List.Elements.{All-cons, All-append, All-weaker}
use Rattle.book_turn.specs.declared.object.Stamp.{Stamp}
use Rattle.book_turn.specs.Entries.{listed}
use Rattle.book_history.specs.declared.changes.Entry.{Entry}
use Rattle.book_history.specs.declared.limits.Settings.{Settings}
use Rattle.book_history.specs.declared.requests.BookRequest.{BookRequest}
use Rattle.book_history.specs.declared.requests.BookCall.{BookCall}
use Rattle.book_history.specs.History.{IsBefore}
use Rattle.book_history.specs.Legal.{IsGiven}
use Rattle.book_history.specs.MadeEntries.{AreMade}
use Rattle.book_history.specs.declared.replies.ReplyBody.{ReplyBody}
use Rattle.book_history.specs.Refusals.{project_of}
use Rattle.book_history.specs.Requests.{BookState, Outcome, added_by, entry_by, body_of, outcome_of}
use Rattle.book_history.proofs.Histories.{AreOf, added_of, none_before}
use Rattle.book_history.proofs.Legality.{given_later}
use Rattle.federation_book.specs.inner.AnyTime.{GivenStays}
use Rattle.federation_book.specs.inner.Done.{IsDone, IsTold}
use Rattle.federation_book.specs.declared.project.Project.{Project}
use Rattle.federation_book.proofs.Answering.{numbered, nothing_added}

pub later : (turn : ℕ) (h : List Entry) → IsBefore turn h → IsBefore (turn + 1) h
later turn h before = All-weaker (λ (e : Entry). e.stamp.turn < turn) (λ (e : Entry). e.stamp.turn < turn + 1) (λ e lt. omega (arith, lt)) h before

own_before : (turn : ℕ) (es : List Entry) → AreOf turn es → IsBefore (turn + 1) es
own_before turn [] are = none_before (turn + 1)
own_before turn (e ∷ es) are =
    All-cons (λ (x : Entry). x.stamp.turn < turn + 1) e es (let is : e.stamp.turn ≡ turn = are.0 in omega (arith, is)) (own_before turn es are.1)

-- the entries are of turns up to that of the call
pub after_call : (settings : Settings) (h k : List Entry) (stamp : Stamp) (call : BookCall) → IsBefore stamp.turn h → k ≡ h ++ added_by settings h stamp call → IsBefore (stamp.turn + 1) k
after_call settings h k stamp call before is =
    subst (IsBefore (stamp.turn + 1)) (sym is)
    (All-append (λ (e : Entry). e.stamp.turn < stamp.turn + 1) h (added_by settings h stamp call) (later stamp.turn h before) (own_before stamp.turn (added_by settings h stamp call) (added_of settings h stamp call)))

pub after_none : (turn : ℕ) (h k : List Entry) → IsBefore turn h → k ≡ h → IsBefore (turn + 1) k
after_none turn h k before is = subst (IsBefore (turn + 1)) (sym is) (later turn h before)

-- what was given out before a call may be brought after it
pub given_after : (before after : BookState) (more : List Entry) → after.settings ≡ before.settings → after.journal ≡ before.journal ++ more → GivenStays before after
given_after before after more same is = λ work given.
    subst (λ s. IsGiven s after.journal work) (sym same)
    (subst (λ j. IsGiven before.settings j work) (sym is) (given_later before.settings before.journal more work given))

-- histories of the same entries
pub made_same : (s t : Settings) (h k : List Entry) → t ≡ s → k ≡ h → AreMade s h → AreMade t k
made_same s t h k p q made = subst (λ (x : Settings). AreMade x k) (sym p) (subst (AreMade s) (sym q) made)

on_ok : {A E : Type 0} (r : Result A E) (P : Type 0) → P → OnOk r P
on_ok (Ok x) P h = h
on_ok (Err e) P h = tt

pub on_err : {A E : Type 0} (r : Result A E) (P : Type 0) → P → OnErr r P
on_err (Ok x) P h = tt
on_err (Err e) P h = h

-- what was answered and what was added
pub done_of : {E : Type 0} (r : Result ReplyBody E) (h k : List Entry) (stamp : Stamp) (o : Outcome) → IfOk r (λ body. body ≡ body_of h o) → OnOk r (k ≡ h ++ listed (entry_by stamp o)) → IfOk r (IsDone h k stamp o)
done_of (Ok body) h k stamp o reply added = record { reply = reply; added = added }
done_of (Err e) h k stamp o reply added = tt

-- .. where nothing is added
pub told_done : {E : Type 0} (r : Result ReplyBody E) (h : List Entry) (stamp : Stamp) (o : Outcome) → IfOk r (IsTold h o) → IfOk r (IsDone h h stamp o)
told_done (Ok body) h stamp o told = record { reply = told.reply; added = nothing_added h (listed (entry_by stamp o)) (told.nothing stamp) }
told_done (Err e) h stamp o told = tt

-- .. of a request that is this one
pub done_as : {E : Type 0} (r : Result ReplyBody E) (settings : Settings) (h k : List Entry) (stamp : Stamp) (a b : BookRequest) → a ≡ b → IfOk r (IsDone h k stamp (outcome_of settings h b)) → IfOk r (IsDone h k stamp (outcome_of settings h a))
done_as r settings h k stamp a b is done = subst (λ q. IfOk r (IsDone h k stamp (outcome_of settings h q))) (sym is) done

pub told_as : {E : Type 0} (r : Result ReplyBody E) (settings : Settings) (h : List Entry) (stamp : Stamp) (a b : BookRequest) → a ≡ b → IfOk r (IsTold h (outcome_of settings h b)) → IfOk r (IsDone h h stamp (outcome_of settings h a))
told_as r settings h stamp a b is told = done_as r settings h h stamp a b is (told_done r h stamp (outcome_of settings h b) told)

-- ---- what becomes of a request, by what becomes of it in its project
pub number_is : (number : Option ℕ) (count : ℕ) (ps : List Project) (id : ℕ) → number ≡ project_of count id → count ≡ length ps → number ≡ project_of (length ps) id
number_is number count ps id is all = is ∙ ap (λ n. project_of n id) all

pub number_there : (number : Option ℕ) (ps : List Project) (id : ℕ) → number ≡ project_of (length ps) id → IfSome number (λ n. (1 ≤ n) × (n ≤ length ps))
number_there number ps id is = subst (λ o. IfSome o (λ n. (1 ≤ n) × (n ≤ length ps))) (sym is) (numbered (length ps) id)

module _ {E : Type 0} (r : Result ReplyBody E) (h : List Entry) (o p : Outcome) (same : o ≡ p) where
  pub reply_is : IfOk r (λ body. body ≡ body_of h o) → IfOk r (λ body. body ≡ body_of h p)
  reply_is is = subst (λ x. IfOk r (λ body. body ≡ body_of h x)) same is

  pub added_is : (after : List Entry) (stamp : Stamp) → OnOk r (after ≡ h ++ listed (entry_by stamp o)) → OnOk r (after ≡ h ++ listed (entry_by stamp p))
  added_is after stamp is = subst (λ x. OnOk r (after ≡ h ++ listed (entry_by stamp x))) same is

  -- nothing is added
  pub asked_is : (after : List Entry) (stamp : Stamp) → after ≡ h → listed (entry_by stamp o) ≡ [] → OnOk r (after ≡ h ++ listed (entry_by stamp p))
  asked_is after stamp kept none = on_ok r (after ≡ h ++ listed (entry_by stamp p)) (kept ∙ nothing_added h (listed (entry_by stamp p)) (ap (λ x. listed (entry_by stamp x)) (sym same) ∙ none))
