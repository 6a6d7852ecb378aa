-- Entries of another book that are brought.
use Rattle.std.proofs.Common.{◌≡◌, ◌<◌, ◌≤◌, ◌+◌, ◌⊎◌, inl, inr, ℕ, Bool, true, false, ltb, MatchOption, IsSome, List, [], ◌∷◌, ◌++◌, length, Option, Some, None, refl, sym, ◌∙◌, ap, subst, arith}
use Rattle.std.proofs.lemmas.Bool.{lt-ltb, le-ltb}
use Rattle.std.proofs.lemmas.List.{length-append}
use Rattle.std.proofs.lemmas.List.Elements.{All-cons, All-append}
use Rattle.std.proofs.lemmas.Option.{same_Some}
use Rattle.bim_model.specs.declared.rules.Rule.{Rule}
use Rattle.book_turn.specs.declared.object.Stamp.{Stamp}
use Rattle.bucket_check.specs.ClashSets.{SetValue}
use Rattle.book_turn.specs.Entries.{listed}
use Rattle.book_history.specs.declared.changes.Change.{Change}
use Rattle.book_history.specs.declared.changes.Change.TheVariants as change
use Rattle.book_history.specs.declared.changes.Entry.{Entry}
use Rattle.book_history.specs.declared.limits.Settings.{Settings}
use Rattle.book_history.specs.declared.requests.BookRequest.{BookRequest}
use Rattle.book_history.specs.declared.requests.BookRequest.TheVariants as request
use Rattle.book_history.specs.Requests.{Accepted, outcome_of, finished, entry_by}
use Rattle.book_history.specs.History.{IsBefore}
use Rattle.book_history.specs.Legal.{IsLegal, IsGiven}
use Rattle.book_history.specs.HistoryLaws.{IsWhole}
use Rattle.book_history.specs.MadeEntries.{IsBuilt, IsMadeAt, AreMade}
use Rattle.book_history.specs.AcceptedChanges.{request_for, EndsBucket, IsAccepted, IsBrought, Brings}
use Rattle.book_history.proofs.Histories.{none_before}
use Rattle.book_history.proofs.Made.{made_more, made_after}
use Rattle.federation_book.specs.inner.AskedChanges.{IsAskedWhole}
use Rattle.federation_book.proofs.Acting.{later}

free_for : (s : Settings) (h : List Entry) (q r : BookRequest) → Some q ≡ Some r → IsLegal s h q × IsBuilt q → IsLegal s h r × IsBuilt r
free_for s h q r e free = subst (λ (x : BookRequest). IsLegal s h x × IsBuilt x) (same_Some q r e) free

-- a request that asks by numbers brings no bucket
pub legal_for : (s : Settings) (h : List Entry) (n : ℕ) (c : Change) (r : BookRequest) → request_for n c ≡ Some r → IsLegal s h r × IsBuilt r
legal_for s h n (change.BucketDone version cell) r e = absurd cc
legal_for s h n (change.Upload name model) r e = free_for s h _ r e (tt, tt)
legal_for s h n (change.Remove name) r e = free_for s h _ r e (tt, tt)
legal_for s h n (change.SetRules rules weight) r e = free_for s h _ r e (tt, tt)
legal_for s h n (change.PostTopic body author weight) r e = free_for s h _ r e (tt, tt)
legal_for s h n (change.PutTopic topic body author weight) r e = free_for s h _ r e (tt, tt)
legal_for s h n (change.DeleteTopic topic) r e = free_for s h _ r e (tt, tt)
legal_for s h n (change.PostComment topic body author weight) r e = free_for s h _ r e (tt, tt)
legal_for s h n (change.PutComment topic comment body author weight) r e = free_for s h _ r e (tt, tt)
legal_for s h n (change.DeleteComment topic comment) r e = free_for s h _ r e (tt, tt)
legal_for s h n (change.PostView topic body weight) r e = free_for s h _ r e (tt, tt)
legal_for s h n (change.DeleteView topic view) r e = free_for s h _ r e (tt, tt)
legal_for s h n (change.ClashTopic version place author weight) r e = free_for s h _ r e (tt, tt)

-- an entry that is brought is asked for as a whole, where it has neither rules nor a bucket
pub asked_whole : (n : ℕ) (c : Change) → IsSome (request_for n c) → ((rules : List Rule) (weight : ℕ) → c ≡ change.SetRules rules weight → ⊥) → IsAskedWhole c
asked_whole n (change.SetRules rules weight) some not = not rules weight refl
asked_whole n (change.BucketDone version cell) some not = cc
asked_whole n (change.Upload name model) some not = tt
asked_whole n (change.Remove name) some not = tt
asked_whole n (change.PostTopic body author weight) some not = tt
asked_whole n (change.PutTopic topic body author weight) some not = tt
asked_whole n (change.DeleteTopic topic) some not = tt
asked_whole n (change.PostComment topic body author weight) some not = tt
asked_whole n (change.PutComment topic comment body author weight) some not = tt
asked_whole n (change.DeleteComment topic comment) some not = tt
asked_whole n (change.PostView topic body weight) some not = tt
asked_whole n (change.DeleteView topic view) some not = tt
asked_whole n (change.ClashTopic version place author weight) some not = tt

-- ---- what was added
is_added : (s : Settings) (h k : List Entry) (e : Entry) → IsBrought s h e k → (IsAccepted s h e.project e.change × (ltb (length h) (length k) ≡ true) × (k ≡ h ++ e ∷ [])) ⊎ ((IsAccepted s h e.project e.change → ⊥) × (ltb (length h) (length k) ≡ false) × (k ≡ h))
is_added s h k e (inl p) =
    let more = ap length p.1 ∙ length-append h (e ∷ []) in
    inl (p.0, lt-ltb (length h) (length k) (omega (arith, more)), p.1)
is_added s h k e (inr p) =
    let same = ap length p.1 in
    inr (p.0, le-ltb (length h) (length k) (omega (arith, same)), p.1)

-- the entries are longer exactly where the entry was added
pub tells_brought : (s : Settings) (h k : List Entry) (e : Entry) (b : Bool) → IsBrought s h e k → b ≡ ltb (length h) (length k) → Brings s h e b k
tells_brought s h k e b brought is = by (is_added s h k e brought)
  where
    by : (IsAccepted s h e.project e.change × (ltb (length h) (length k) ≡ true) × (k ≡ h ++ e ∷ [])) ⊎ ((IsAccepted s h e.project e.change → ⊥) × (ltb (length h) (length k) ≡ false) × (k ≡ h)) → Brings s h e b k
    by (inl p) = subst (λ (t : Bool). Brings s h e t k) (sym (is ∙ p.1)) (p.0, p.2)
    by (inr p) = subst (λ (t : Bool). Brings s h e t k) (sym (is ∙ p.1)) (p.0, p.2)

-- .. and the history goes on as one of entries that requests made
made_of : (s : Settings) (h : List Entry) (e : Entry) (o : Option BookRequest) → request_for e.project e.change ≡ o → IsSome o → IsAccepted s h e.project e.change → IsMadeAt s h e
made_of s h e None is some a = absurd cc
made_of s h e (Some r) is some a =
    let outcome = subst (λ (o : Option BookRequest). MatchOption o (EndsBucket s h e.project e.change) (λ (x : BookRequest). outcome_of s h x ≡ Accepted e.project e.change)) is a in
    let free = legal_for s h e.project e.change r is in
    record {
      request = r;
      built = free.1;
      legal = free.0;
      becomes = outcome;
    }

pub made_brought : (s : Settings) (h k : List Entry) (e : Entry) → IsSome (request_for e.project e.change) → AreMade s h → IsBrought s h e k → AreMade s k
made_brought s h k e some made (inl p) =
    subst (AreMade s) (sym p.1) (made_more s [] h e made (made_of s h e (request_for e.project e.change) refl some p.0))
made_brought s h k e some made (inr p) = subst (AreMade s) (sym p.1) made

-- .. also where the entry is of a bucket whose clashes were brought
pub made_bucket : (s : Settings) (h k : List Entry) (stamp : Stamp) (set : SetValue) → IsWhole set.work.grid → IsGiven s h set.work → AreMade s h → k ≡ h ++ listed (entry_by stamp (finished h set)) → AreMade s k
made_bucket s h k stamp set whole given made added =
    subst (AreMade s) (sym added) (made_after s h stamp (request.Finish set) made whole given)

-- all entries are of turns up to that of the entry that was brought
pub after_brought : (s : Settings) (h k : List Entry) (e : Entry) → IsBefore e.stamp.turn h → IsBrought s h e k → IsBefore (e.stamp.turn + 1) k
after_brought s h k e before (inl p) =
    subst (IsBefore (e.stamp.turn + 1)) (sym p.1)
    (All-append (λ (x : Entry). x.stamp.turn < e.stamp.turn + 1) h (e ∷ []) (later e.stamp.turn h before)
    (All-cons (λ (x : Entry). x.stamp.turn < e.stamp.turn + 1) e [] (omega arith) (none_before (e.stamp.turn + 1))))
after_brought s h k e before (inr p) = subst (IsBefore (e.stamp.turn + 1)) (sym p.1) (later e.stamp.turn h before)
