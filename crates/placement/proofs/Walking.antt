-- Walking up: what was met, and that a way that meets itself never ends.
use Rattle.std.proofs.Common.{◌≡◌, ◌≢◌, ℕ, ◌+◌, ◌<◌, ◌≤◌, ◌⊎◌, inl, inr, List, [], ◌∷◌, ◌++◌, length, get_or, set, take, Option, Some, None, refl, sym, ap, ◌∙◌, subst, arith, option_and_then, IfNone, Bool, true, false, nat_lt}
use Rattle.std.proofs.lemmas.Bool.Decides.{nat_tests}
use Rattle.std.proofs.lemmas.List.{get_or-set_same, get_or-set_other, get_or_default, get_or_append_left, get_or_push, get_or_past, length_push, length-set, take-append-le, take_at}
use Rattle.std.proofs.lemmas.List.Sums.{sum_by-set}
use Rattle.std.proofs.lemmas.Bool.{cases_lt}
use Rattle.p21_values.specs.declared.value.Instance.{Instance}
use Rattle.p21_values.specs.InstanceLookup.{look}
use Rattle.p21_values.specs.InstancePlaces.{IsPlaceOf}
use Rattle.p21_values.proofs.PlaceLemmas.{some_instance}
use Rattle.placement.specs.Chains.{parent_in, parent_of, Ends, here, above, StandsIn, ParentsFirst}
use Rattle.placement.specs.inner.Walks.{rank_at, is_new, Ranked, Climbs, Climbed, Outcome}

pub same_or : (k n : ℕ) → (k ≡ n) ⊎ (k ≢ n)
same_or k n = grind arith

some_same : {X : Type 0} (a b : X) → Some a ≡ Some b → a ≡ b
some_same a b e = cc

none_some : {X : Type 0} (a : X) → Some a ≡ None → ⊥
none_some a e = cc

twice : (a b : ℕ) → Some (Some a) ≡ Some (Some b) → a ≡ b
twice a b e = cc

never_both : {A : Type 0} (p : Option (Option ℕ)) (a : ℕ) → p ≡ Some None → p ≡ Some (Some a) → A
never_both p a e f = absurd (cc)

-- Reading.

pub parent_is : (world : List Instance) (id : ℕ) (i : Instance) → look world id ≡ Some i → parent_of world id ≡ parent_in i
parent_is world id i e = ap (option_and_then parent_in) e

pub unparented : (world : List Instance) (id : ℕ) (i : Instance) → look world id ≡ Some i → None ≡ parent_in i → (parent : Option ℕ) → parent_of world id ≡ Some parent → ⊥
unparented world id i e n parent h = none_some parent (sym h ∙ parent_is world id i e ∙ sym n)

pub none_left : {X : Type 0} (o : Option X) (P : Type 0) → ((x : X) → o ≡ Some x → ⊥) → IfNone o P → P
none_left None P n h = h
none_left (Some x) P n h = absurd (n x refl)

pub no_rank : (o : Option ℕ) → ((x : ℕ) → o ≡ Some x → ⊥) → o ≡ None
no_rank None n = refl
no_rank (Some x) n = absurd (n x refl)

-- Meeting.

one_number : (world : List Instance) (a b at : ℕ) → IsPlaceOf world a at → IsPlaceOf world b at → a ≡ b
one_number world a b at p q = sym (p.number some_instance) ∙ q.number some_instance

pub met_one : (world : List Instance) (ranks : List (Option ℕ)) (met : List ℕ) (id at : ℕ) → Ranked world ranks met → IsPlaceOf world id at → rank_at ranks at ≡ None
    → Ranked world (set ranks at (Some (length met))) (met ++ id ∷ [])
met_one world ranks met id at r p e =
    let size = r.size in
    let within = p.within in
    let lt : at < length ranks = omega arith in
    record {
      size = length-set ranks at (Some (length met)) ∙ r.size;
      sound = λ other k rank q f. elim (same_or k at) [
        | inl s ↦ (
            let g : rank ≡ length met = some_same rank (length met) (sym f ∙ ap (rank_at (set ranks at (Some (length met)))) s ∙ get_or-set_same ranks at (Some (length met)) None lt) in
            let same = one_number world id other at p (subst (λ j. IsPlaceOf world other j) s q) in
            let l = length_push met id in
            (omega arith, get_or_push met id 0 rank (sym g) ∙ same))
        | inr n ↦ (
            let old = r.sound other k rank q (sym (get_or-set_other ranks at k (Some (length met)) None n) ∙ f) in
            let l = length_push met id in
            let lt2 = old.0 in
            (omega arith, get_or_append_left met (id ∷ []) 0 rank old.0 ∙ old.1))
      ];
      room =
          let s = sum_by-set is_new ranks at (Some (length met)) None lt in
          let g = ap is_new e in
          let l = length_push met id in
          let room = r.room in
          omega arith;
    }

-- Climbing.

next_push : (met : List ℕ) (current p k : ℕ) → k ≤ length met → get_or (met ++ current ∷ []) k p ≡ get_or met k current
next_push met current p k le = elim (cases_lt k (length met)) [
  | inl lt ↦ get_or_append_left met (current ∷ []) p k lt ∙ get_or_default met k p current lt
  | inr ge ↦ (let e : length met ≡ k = omega arith in get_or_push met current p k e ∙ sym (get_or_past met k current ge))
]

pub climbs_on : (world : List Instance) (met : List ℕ) (start current p id : ℕ) → Climbs world met start current id → parent_of world current ≡ Some (Some p) → Climbs world (met ++ current ∷ []) start p id
climbs_on world met start current p id c e =
    let b = c.begun in
    let l = length_push met current in
    record {
      begun = omega arith;
      first = next_push met current p start c.begun ∙ c.first;
      stands = λ k le lt. elim (cases_lt k (length met)) [
        | inl in_old ↦ (let le2 : k + 1 ≤ length met = omega arith in
            ap (parent_of world) (get_or_append_left met (current ∷ []) 0 k in_old) ∙ c.stands k le in_old ∙ ap (λ n. Some (Some n)) (sym (next_push met current p (k + 1) le2)))
        | inr ge ↦ (let k_is : length met ≡ k = omega arith in let past : length (met ++ current ∷ []) ≤ k + 1 = omega arith in
            ap (parent_of world) (get_or_push met current 0 k k_is) ∙ e ∙ ap (λ n. Some (Some n)) (sym (get_or_past (met ++ current ∷ []) (k + 1) p past)))
      ];
    }

-- the last one stands in none
pub climbed_top : (world : List Instance) (met : List ℕ) (start current id : ℕ) → Climbs world met start current id → parent_of world current ≡ Some None → Climbed world (met ++ current ∷ []) start id
climbed_top world met start current id c e =
    let b = c.begun in
    let l = length_push met current in
    record {
      found = (start, omega arith, next_push met current id start c.begun ∙ c.first);
      linked = record {
        first = λ lt. next_push met current 0 start c.begun ∙ c.first;
        next = λ k le lt. (let in_old : k < length met = omega arith in let le2 : k + 1 ≤ length met = omega arith in
            ap (parent_of world) (get_or_append_left met (current ∷ []) 0 k in_old) ∙ c.stands k le in_old ∙ ap (λ n. Some (Some n)) (sym (next_push met current 0 (k + 1) le2)));
      };
      rests = λ k le lt. elim (cases_lt k (length met)) [
        | inl in_old ↦ (let le2 : k + 1 ≤ length met = omega arith in
            inr (
              k + 1,
              omega arith,
              inr refl,
              ap (parent_of world) (get_or_append_left met (current ∷ []) 0 k in_old) ∙ c.stands k le in_old ∙ ap (λ n. Some (Some n)) (sym (next_push met current 0 (k + 1) le2)),
            ))
        | inr ge ↦ (let k_is : length met ≡ k = omega arith in inl (ap (parent_of world) (get_or_push met current 0 k k_is) ∙ e))
      ];
    }

-- the last one stands in one that was met before
pub climbed_known : (world : List Instance) (met : List ℕ) (start current id rank : ℕ) → Climbs world met start current id → rank < start → get_or met rank 0 ≡ current → Climbed world met start id
climbed_known world met start current id rank c lt e =
    let b = c.begun in
    let lr : rank < length met = omega arith in
    record {
      found = elim (cases_lt start (length met)) [
        | inl l ↦ (start, l, get_or_default met start id current l ∙ c.first)
        | inr ge ↦ (rank, lr, get_or_default met rank id 0 lr ∙ e ∙ sym (get_or_past met start current ge) ∙ c.first)
      ];
      linked = record {
        first = λ l. get_or_default met start 0 current l ∙ c.first;
        next = λ k le l. (let lk : k < length met = omega arith in c.stands k le lk ∙ ap (λ n. Some (Some n)) (get_or_default met (k + 1) current 0 l));
      };
      rests = λ k le lk. elim (cases_lt (k + 1) (length met)) [
        | inl l ↦ inr (k + 1, l, inr refl, c.stands k le lk ∙ ap (λ n. Some (Some n)) (get_or_default met (k + 1) current 0 l))
        | inr ge ↦ inr (rank, lr, inl lt, c.stands k le lk ∙ ap (λ n. Some (Some n)) (get_or_past met (k + 1) current ge ∙ sym e))
      ];
    }

-- Ways that never end.

climb_out : (world : List Instance) (met : List ℕ) (start current id : ℕ) → Climbs world met start current id → (x : ℕ) → Ends world x → (k : ℕ) → start ≤ k → k < length met → get_or met k 0 ≡ x → Ends world current
climb_out world met start current id c _ (here x e) k le lt w = never_both (parent_of world x) (get_or met (k + 1) current) e (ap (parent_of world) (sym w) ∙ c.stands k le lt)
climb_out world met start current id c _ (above x p e up) k le lt w =
    let same : p ≡ get_or met (k + 1) current = twice _ _ (sym e ∙ ap (parent_of world) (sym w) ∙ c.stands k le lt) in
    elim (cases_lt (k + 1) (length met)) [
      | inl l ↦ climb_out world met start current id c p up (k + 1) (omega arith) l (get_or_default met (k + 1) 0 current l ∙ sym same)
      | inr ge ↦ subst (λ n. Ends world n) (same ∙ get_or_past met (k + 1) current ge) up
    ]

-- where the way from the current one never ends, that from the first never does
pub stuck : (world : List Instance) (met : List ℕ) (start current id : ℕ) → Climbs world met start current id → (Ends world current → ⊥) → Ends world id → ⊥
stuck world met start current id c none e = elim (cases_lt start (length met)) [
  | inl l ↦ none (climb_out world met start current id c id e start (omega arith) l (get_or_default met start 0 current l ∙ c.first))
  | inr ge ↦ none (subst (λ n. Ends world n) (sym c.first ∙ get_or_past met start current ge) e)
]

pub unread : (world : List Instance) (x : ℕ) → ((parent : Option ℕ) → parent_of world x ≡ Some parent → ⊥) → Ends world x → ⊥
unread world _ none (here x e) = none None e
unread world _ none (above x p e up) = none (Some p) e

round : (world : List Instance) (met : List ℕ) (start current id rank : ℕ) → Climbs world met start current id → start ≤ rank → rank < length met → get_or met rank 0 ≡ current
    → (x : ℕ) → Ends world x → (k : ℕ) → start ≤ k → k < length met → get_or met k 0 ≡ x → ⊥
round world met start current id rank c lr rl f _ (here x e) k le lt w = never_both (parent_of world x) (get_or met (k + 1) current) e (ap (parent_of world) (sym w) ∙ c.stands k le lt)
round world met start current id rank c lr rl f _ (above x p e up) k le lt w =
    let same : p ≡ get_or met (k + 1) current = twice _ _ (sym e ∙ ap (parent_of world) (sym w) ∙ c.stands k le lt) in
    elim (cases_lt (k + 1) (length met)) [
      | inl l ↦ round world met start current id rank c lr rl f p up (k + 1) (omega arith) l (get_or_default met (k + 1) 0 current l ∙ sym same)
      | inr ge ↦ round world met start current id rank c lr rl f p up rank lr rl (f ∙ sym (get_or_past met (k + 1) current ge) ∙ sym same)
    ]

-- a way that comes again to one that it met never ends
pub looped : (world : List Instance) (met : List ℕ) (start current id rank : ℕ) → Climbs world met start current id → start ≤ rank → rank < length met → get_or met rank 0 ≡ current → Ends world id → ⊥
looped world met start current id rank c lr rl f e =
    let l : start < length met = omega arith in
    round world met start current id rank c lr rl f id e start (omega arith) l (get_or_default met start 0 current l ∙ c.first)

-- it was met before the start, or the way never ends
pub outcome : (world : List Instance) (met : List ℕ) (start current id rank : ℕ) → Climbs world met start current id → rank < length met → get_or met rank 0 ≡ current → Outcome world met start id (nat_lt rank start)
outcome world met start current id rank c lt e = by_test (nat_lt rank start) refl
  where
    by_test : (b : Bool) → nat_lt rank start ≡ b → Outcome world met start id b
    by_test true t = (let before : rank < start = grind (arith, nat_tests) in climbed_known world met start current id rank c before e)
    by_test false t = (let from : start ≤ rank = grind (arith, nat_tests) in looped world met start current id rank c from lt e)

-- The order.

pub first_push : (world : List Instance) (ids : List ℕ) (x : ℕ) → ParentsFirst world ids → StandsIn world ids x → ParentsFirst world (ids ++ x ∷ [])
first_push world ids x h s k d lt =
    let l = length_push ids x in
    elim (cases_lt k (length ids)) [
      | inl in_old ↦ (
          let le : k ≤ length ids = omega arith in
          let front : take k (ids ++ x ∷ []) ≡ take k ids = take-append-le k ids (x ∷ []) le in
          let item : get_or (ids ++ x ∷ []) k d ≡ get_or ids k d = get_or_append_left ids (x ∷ []) d k in_old in
          subst (λ n. StandsIn world (take k (ids ++ x ∷ [])) n) (sym item) (subst (λ f. StandsIn world f (get_or ids k d)) (sym front) (h k d in_old)))
      | inr ge ↦ (
          let e : length ids ≡ k = omega arith in
          let front : take k (ids ++ x ∷ []) ≡ ids = take_at ids (x ∷ []) k e in
          let item : get_or (ids ++ x ∷ []) k d ≡ x = get_or_push ids x d k e in
          subst (λ n. StandsIn world (take k (ids ++ x ∷ [])) n) (sym item) (subst (λ f. StandsIn world f x) (sym front) s))
    ]
