-- What a framer answers are the events that all the bytes spell, in their order.
use Rattle.std.proofs.Common.{◌≡◌, ℕ, ◌<◌, ◌≤◌, Bool, true, false, List, [], ◌∷◌, ◌++◌, length, Ok, Err, refl, sym, ap, ◌∙◌, arith, append_assoc, inl, inr, subst}
use Rattle.std.proofs.lemmas.List.{append-nil, length-append}
use Rattle.httparse.specs.Grammar.{RequestHead, HasNoRequest}
use Rattle.http_frame.specs.declared.types.HttpRequest.{HttpRequest}
use Rattle.http_frame.specs.declared.types.FrameFault.{FrameFault}
use Rattle.http_frame.specs.declared.types.FrameStep.TheVariants.{More, Continue, Request}
use Rattle.http_frame.specs.declared.types.FrameError.TheVariants.{Fault, Memory}
use Rattle.http_frame.specs.Heads.{Framing, sized, most_head, front, framing, most_body, HasOtherVersion, IsHopeless, HasGoodHead}
use Rattle.http_frame.specs.Bodies.{ReadsBody, FailsInBody}
use Rattle.http_frame.specs.Events.{Begins, Fails, Asks, Event, continue, request, Ending, IsRest, IsTold, Spells}
use Rattle.http_frame.specs.FramerSteps.{Act, fed, answered, Runs, given, told_by}
use Rattle.http_frame.proofs.HeadLaws.{head_is_some, good_unique, good_is_no_fault}
use Rattle.http_frame.proofs.EventLaws.{begins_unique, begins_stays, asks_stays, begins_settles, told_not, ends_not}

abbrev Left : List Event → List Event → List ℕ → Bool → Ending → Type 0
Left es done new then e = (gs : List Event) × (es ≡ done ++ gs) × Spells new then gs e

move : (b c : List ℕ) (t u : Bool) (es : List Event) (e : Ending) → b ≡ c → t ≡ u → Spells b t es e → Spells c u es e
move b c t u es e p q x = subst (λ (v : Bool). Spells c v es e) q (subst (λ (w : List ℕ). Spells w t es e) p x)

pub answers_are_first : (old new : List ℕ) (told then : Bool) (acts : List Act) (es : List Event) (e : Ending)
    → Runs old told acts new then → Spells (old ++ given acts) told es e → Left es (told_by acts) new then e
answers_are_first old new told then [] es e r x = (es, refl, move (old ++ []) new told then es e (append-nil old ∙ r.0) r.1 x)
answers_are_first old new told then (fed piece ∷ acts) es e r x =
    answers_are_first (old ++ piece) new told then acts es e r (move _ ((old ++ piece) ++ given acts) told told es e (sym (append_assoc old piece (given acts))) refl x)
answers_are_first old new told then (answered (Ok More) ∷ acts) es e (mid, mark, (t, n, p, q, s), r) x =
    answers_are_first mid new mark then acts es e r (move (old ++ given acts) (mid ++ given acts) told mark es e (ap (λ b. b ++ given acts) (sym p)) (sym q) x)
answers_are_first old new told then (answered (Ok Continue) ∷ acts) [] e (mid, mark, (t, n, p, q), r) x =
    absurd (told_not told (old ++ given acts) x.0 t (asks_stays old (given acts) n))
answers_are_first old new told then (answered (Ok Continue) ∷ acts) (continue ∷ es) e (mid, mark, (t, n, p, q), r) x =
    let s = answers_are_first mid new mark then acts es e r (move (old ++ given acts) (mid ++ given acts) true mark es e (ap (λ b. b ++ given acts) (sym p)) (sym q) x.2) in
    (s.0, ap (λ v. continue ∷ v) s.1, s.2)
answers_are_first old new told then (answered (Ok Continue) ∷ acts) (request d ∷ es) e (mid, mark, (t, n, p, q), r) x =
    absurd (told_not told (old ++ given acts) x.0 t (asks_stays old (given acts) n))
answers_are_first old new told then (answered (Ok (Request d)) ∷ acts) [] e (mid, mark, (t, n, q), r) x =
    absurd (ends_not (old ++ given acts) e d (mid ++ given acts) x.1 (begins_stays old (given acts) d mid n))
answers_are_first old new told then (answered (Ok (Request d)) ∷ acts) (continue ∷ es) e (mid, mark, (t, n, q), r) x =
    absurd (told_not told old t x.0 (begins_settles old (given acts) d mid n x.1))
answers_are_first old new told then (answered (Ok (Request d)) ∷ acts) (request k ∷ es) e (mid, mark, (t, n, q), r) x =
    let same = begins_unique (old ++ given acts) d k (mid ++ given acts) x.1.0 (begins_stays old (given acts) d mid n) x.1.1 in
    let s = answers_are_first mid new mark then acts es e r (move x.1.0 (mid ++ given acts) false mark es e (sym same.1) (sym q) x.1.2) in
    (s.0, λ i. request (sym same.0 i) ∷ s.1 i, s.2)
answers_are_first old new told then (answered (Err (Fault f)) ∷ acts) es e (mid, mark, (t, n, p, q), r) x =
    answers_are_first mid new mark then acts es e r (move (old ++ given acts) (mid ++ given acts) told mark es e (ap (λ b. b ++ given acts) (sym p)) (sym q) x)
answers_are_first old new told then (answered (Err Memory) ∷ acts) es e (mid, mark, (p, q), r) x =
    answers_are_first mid new mark then acts es e r (move (old ++ given acts) (mid ++ given acts) told mark es e (ap (λ b. b ++ given acts) (sym p)) (sym q) x)

-- where More may be answered, no event is left, and it is so only there
pub more_is_none_left : (bytes : List ℕ) (told : Bool) (es : List Event) (e : Ending) → IsTold told bytes → IsRest bytes → Spells bytes told es e → es ≡ []
more_is_none_left bytes told [] e t n x = refl
more_is_none_left bytes told (continue ∷ es) e t n x = absurd (told_not told bytes t x.0 x.1)
more_is_none_left bytes told (request r ∷ es) e t n x = absurd (n.0 r x.1.0 x.1.1)

-- ---- what is known of the head decides the step

no_head_no_good : (bytes : List ℕ) → HasNoRequest (front bytes) → (h : RequestHead) (rest : List ℕ) → HasGoodHead bytes h rest → ⊥
no_head_no_good bytes none h rest good = head_is_some bytes h rest good.whole none

pub unfinished_is_rest : (bytes : List ℕ) → length bytes < most_head → ¬ (HasOtherVersion bytes) → HasNoRequest (front bytes) → ¬ (IsHopeless bytes) → IsRest bytes × ¬ (Asks bytes)
unfinished_is_rest bytes short version none hope =
    ((λ r rest b. no_head_no_good bytes none b.head b.behind b.good, λ f x. fault f x), λ asks. no_head_no_good bytes none asks.0 asks.1 asks.2)
  where
    fault : (f : FrameFault) → Fails bytes f → ⊥
    fault f (inl (inl x)) = version x.0
    fault f (inl (inr (n, inl x))) = hope x.0
    fault f (inl (inr (n, inr (inl x)))) = let long : most_head ≤ length bytes = x.0.0 in omega arith
    fault f (inl (inr (n, inr (inr (h, r, x, d))))) = head_is_some bytes h r x none
    fault f (inr (h, r, good, x)) = no_head_no_good bytes none h r good

-- a body of a stated length that has not come whole
pub body_to_come : (bytes : List ℕ) (h : RequestHead) (rest : List ℕ) (n : ℕ) → HasGoodHead bytes h rest → framing h ≡ sized n → length rest < n → IsRest bytes
body_to_come bytes h rest n good how lacks =
    (λ r after b. whole r after b, λ f x. fault f x)
  where
    long : (r : List ℕ) (body : List ℕ) (after : List ℕ) (n : ℕ) → length body ≡ n → r ≡ body ++ after → length r < n → ⊥
    long r body after n l e lacks = omega (arith, l, ap length e, length-append body after, lacks)

    whole : (r : HttpRequest) (after : List ℕ) → Begins bytes r after → ⊥
    whole r after b =
        let same = good_unique bytes b.head h b.behind rest b.good good in
        let at : ReadsBody (most_body b.head) (sized n) b.behind r.body after = subst (λ (f : Framing). ReadsBody (most_body b.head) f b.behind r.body after) (ap framing same.0 ∙ how) b.body in
        long rest r.body after n at.0 (sym same.1 ∙ at.1) lacks

    fault : (f : FrameFault) → Fails bytes f → ⊥
    fault f (inl x) = good_is_no_fault bytes h rest f good x
    fault f (inr (k, t, fine, x)) =
        let same = good_unique bytes k h t rest fine good in
        let at : FailsInBody (most_body k) (sized n) t f = subst (λ (g : Framing). FailsInBody (most_body k) g t f) (ap framing same.0 ∙ how) x in at
