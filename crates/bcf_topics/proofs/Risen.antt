-- A topic's place among topics that rise.
use Rattle.std.proofs.Common.{◌≡◌, ℕ, zero, suc, ◌+◌, ◌<◌, ◌==◌, inl, inr, Bool, true, false, cond, not, List, [], ◌∷◌, ◌++◌, length, get_or, set, is_some, Some, None, refl, ap, arith, nat_lt, Result, Ok, Err, OnErr}
use Rattle.std.proofs.lemmas.Bool.{cases_Bool, cases_lt, eqb-true, eq-eqb, ne_eqb, le-ltb}
use Rattle.std.proofs.lemmas.Cmp.{nat_cmp_total}
use Rattle.std.proofs.lemmas.List.Kept.{AllPairs-filter}
use Rattle.std.proofs.lemmas.List.Quantifiers.{all_pairs_push}
use Rattle.std.proofs.lemmas.List.Sorted.{searchable_from_sorted}
use Rattle.std.specs.List.{All, remove}
use Rattle.std.specs.List.Sorted.{IsBinarySearchResult, IsSortedByKey}
use Rattle.std.specs.Ordering.{nat_cmp, is_lt}
use Rattle.std.specs.declared.cmp.Ordering.TheVariants.{Equal}
use Rattle.bim_model.specs.declared.author.Author.{Author}
use Rattle.bcf_topics.specs.declared.topic_body.TopicBody.{TopicBody}
use Rattle.bcf_topics.specs.declared.topic.Topic.{Topic}
use Rattle.bcf_topics.specs.Topics.{Rises, topic_of, topic_put, topics_put, topics_but}

abbrev IsBelow : Topic → Topic → Type 0
IsBelow t u = t.serial < u.serial

-- no topic has the number
abbrev pub IsApart : ℕ → List Topic → Type 0
IsApart serial ts = (k : ℕ) (d : Topic) → k < length ts → (get_or ts k d).serial ≡ serial → ⊥

tail_apart : (serial : ℕ) (t : Topic) (ts : List Topic) → IsApart serial (t ∷ ts) → IsApart serial ts
tail_apart serial t ts h k d lt = h (suc k) d (omega arith)

tail_rises : (t : Topic) (ts : List Topic) → Rises (t ∷ ts) → Rises ts
unfolding Rises
tail_rises t ts r i j d below within = r (suc i) (suc j) d (omega arith) (omega arith)

-- none of the later topics has the number of the first
later_apart : (serial : ℕ) (t : Topic) (ts : List Topic) → Rises (t ∷ ts) → t.serial ≡ serial → IsApart serial ts
unfolding Rises
later_apart serial t ts r e k d lt f = let h = r 0 (suc k) d (omega arith) (omega arith) in absurd (omega arith)

-- the first has not the number of a later one
first_apart : (serial : ℕ) (t : Topic) (ts : List Topic) (k : ℕ) (d : Topic) → Rises (t ∷ ts) → k < length ts
    → (get_or ts k d).serial ≡ serial → t.serial ≡ serial → ⊥
first_apart serial t ts k d r lt f e = later_apart serial t ts r e k d lt f

pub none_of : (serial : ℕ) (ts : List Topic) → IsApart serial ts → topic_of serial ts ≡ None
unfolding topic_of
none_of serial [] h = refl
none_of serial (t ∷ ts) h =
    rw (ne_eqb t.serial serial (h 0 t (omega arith))) (none_of serial ts (tail_apart serial t ts h))

pub found_of : (serial : ℕ) (ts : List Topic) (at : ℕ) (d : Topic) → Rises ts → at < length ts → (get_or ts at d).serial ≡ serial
    → topic_of serial ts ≡ Some (get_or ts at d)
unfolding topic_of
found_of serial [] at d r lt e = absurd (omega arith)
found_of serial (t ∷ ts) zero d r lt e = rw (eq-eqb t.serial serial e) refl
found_of serial (t ∷ ts) (suc k) d r lt e =
    rw (ne_eqb t.serial serial (first_apart serial t ts k d r (omega arith) e))
    (found_of serial ts k d (tail_rises t ts r) (omega arith) e)

-- there is one
pub found_some : (serial : ℕ) (ts : List Topic) (at : ℕ) → Rises ts → at < length ts → ((d : Topic) → (get_or ts at d).serial ≡ serial)
    → is_some (topic_of serial ts) ≡ true
unfolding topic_of
found_some serial [] at r lt n = absurd (omega arith)
found_some serial (t ∷ ts) zero r lt n = rw (eq-eqb t.serial serial (n t)) refl
found_some serial (t ∷ ts) (suc k) r lt n =
    rw (ne_eqb t.serial serial (first_apart serial t ts k t r (omega arith) (n t)))
    (found_some serial ts k (tail_rises t ts r) (omega arith) n)

put_none : (serial : ℕ) (body : TopicBody) (author : Author) (ts : List Topic) → IsApart serial ts → topics_put serial body author ts ≡ ts
unfolding topics_put
put_none serial body author [] h = refl
put_none serial body author (t ∷ ts) h =
    rw (ne_eqb t.serial serial (h 0 t (omega arith))) (ap (λ us. t ∷ us) (put_none serial body author ts (tail_apart serial t ts h)))

-- another body is put at the topic's place
pub put_at : (serial : ℕ) (body : TopicBody) (author : Author) (ts : List Topic) (at : ℕ) (d : Topic) → Rises ts → at < length ts
    → (get_or ts at d).serial ≡ serial → topics_put serial body author ts ≡ set ts at (topic_put body author (get_or ts at d))
unfolding topics_put
put_at serial body author [] at d r lt e = absurd (omega arith)
put_at serial body author (t ∷ ts) zero d r lt e =
    rw (eq-eqb t.serial serial e) (ap (λ us. topic_put body author t ∷ us) (put_none serial body author ts (later_apart serial t ts r e)))
put_at serial body author (t ∷ ts) (suc k) d r lt e =
    rw (ne_eqb t.serial serial (first_apart serial t ts k d r (omega arith) e))
    (ap (λ us. t ∷ us) (put_at serial body author ts k d (tail_rises t ts r) (omega arith) e))

but_none : (serial : ℕ) (ts : List Topic) → IsApart serial ts → topics_but serial ts ≡ ts
unfolding topics_but
but_none serial [] h = refl
but_none serial (t ∷ ts) h =
    rw (ne_eqb t.serial serial (h 0 t (omega arith))) (ap (λ us. t ∷ us) (but_none serial ts (tail_apart serial t ts h)))

-- the topic at its place is taken away
pub but_at : (serial : ℕ) (ts : List Topic) (at : ℕ) (d : Topic) → Rises ts → at < length ts
    → (get_or ts at d).serial ≡ serial → topics_but serial ts ≡ remove ts at
unfolding topics_but
but_at serial [] at d r lt e = absurd (omega arith)
but_at serial (t ∷ ts) zero d r lt e = rw (eq-eqb t.serial serial e) (but_none serial ts (later_apart serial t ts r e))
but_at serial (t ∷ ts) (suc k) d r lt e =
    rw (ne_eqb t.serial serial (first_apart serial t ts k d r (omega arith) e))
    (ap (λ us. t ∷ us) (but_at serial ts k d (tail_rises t ts r) (omega arith) e))

same_serial : (b : Bool) (body : TopicBody) (author : Author) (t : Topic) → (cond b (topic_put body author t) t).serial ≡ t.serial
same_serial true body author t = refl
same_serial false body author t = refl

serials_stay : (serial : ℕ) (body : TopicBody) (author : Author) (ts : List Topic) (k : ℕ) (d : Topic)
    → (get_or (topics_put serial body author ts) k d).serial ≡ (get_or ts k d).serial
unfolding topics_put
serials_stay serial body author [] k d = refl
serials_stay serial body author (t ∷ ts) zero d = same_serial (t.serial == serial) body author t
serials_stay serial body author (t ∷ ts) (suc k) d = serials_stay serial body author ts k d

count_stays : (serial : ℕ) (body : TopicBody) (author : Author) (ts : List Topic) → length (topics_put serial body author ts) ≡ length ts
unfolding topics_put
count_stays serial body author [] = refl
count_stays serial body author (t ∷ ts) = ap suc (count_stays serial body author ts)

pub put_rises : (serial : ℕ) (body : TopicBody) (author : Author) (ts : List Topic) → Rises ts → Rises (topics_put serial body author ts)
unfolding Rises
put_rises serial body author ts r i j d below within =
    let n = count_stays serial body author ts in
    let a = serials_stay serial body author ts i d in
    let b = serials_stay serial body author ts j d in
    let h = r i j d below (omega arith) in
    omega arith

pub but_rises : (serial : ℕ) (ts : List Topic) → Rises ts → Rises (topics_but serial ts)
unfolding topics_but Rises
but_rises serial ts r = AllPairs-filter IsBelow (λ (t : Topic). not (t.serial == serial)) ts r

pub push_rises : (t : Topic) (ts : List Topic) → Rises ts → All (λ (u : Topic). u.serial < t.serial) ts → Rises (ts ++ t ∷ [])
unfolding Rises
push_rises t ts r h = all_pairs_push IsBelow ts t r (λ k d lt. h k d lt)

-- what binary search asks
sorted : (ts : List Topic) → Rises ts → IsSortedByKey (λ (t : Topic). t.serial) nat_cmp ts
unfolding Rises
sorted ts r k d low high =
    let h = r k (k + 1) d (omega arith) high in
    not_less (get_or ts k d).serial (get_or ts (k + 1) d).serial h
  where
    not_less : (a b : ℕ) → a < b → is_lt (nat_cmp b a) ≡ false
    not_less a b h = rw (le-ltb b a (omega arith)) (elim (cases_Bool (b == a)) [ inl t ↦ rw t refl | inr f ↦ rw f refl ])

equal : (a b : ℕ) → nat_cmp a b ≡ Equal → a ≡ b
equal a b h = elim (cases_Bool (nat_lt a b)) [
  | inl t ↦ (let k = rw t at h in cc)
  | inr f ↦ (let k = rw f at h in elim (cases_Bool (a == b)) [
    | inl t ↦ eqb-true a b t
    | inr g ↦ (let l = rw g at k in cc)
  ])
]

-- numbers that compare otherwise differ
unequal : (a b : ℕ) → a ≡ b → nat_cmp a b ≡ Equal
unequal a b e = rw (le-ltb a b (omega arith), eq-eqb a b e) refl

pub found_number : (serial : ℕ) (ts : List Topic) (at : ℕ) (d : Topic) → IsBinarySearchResult (λ (t : Topic). nat_cmp t.serial serial) ts (Ok at)
    → (get_or ts at d).serial ≡ serial
found_number serial ts at d h = equal (get_or ts at d).serial serial (h d)

pub none_there : (serial : ℕ) (ts : List Topic) (at : ℕ) → Rises ts → IsBinarySearchResult (λ (t : Topic). nat_cmp t.serial serial) ts (Err at)
    → topic_of serial ts ≡ None
none_there serial ts at r h = none_of serial ts (λ k d lt e.
    let p = h (searchable_from_sorted nat_cmp_total (λ (t : Topic). t.serial) ts serial (sorted ts r)) in
    let same = unequal (get_or ts k d).serial serial e in
    elim (cases_lt k at) [
      | inl b ↦ (let l = p.0 k d (omega arith) b in cc)
      | inr a ↦ (let g = p.1 k d a lt in cc)
    ])

-- what holds anyway holds at an error
pub at_error : {T E P : Type 0} (r : Result T E) → P → OnErr r P
at_error (Ok value) p = tt
at_error (Err error) p = p
