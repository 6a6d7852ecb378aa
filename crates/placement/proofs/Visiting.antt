-- The order of placements, each after the one that it stands in.
use Rattle.std.proofs.Common.{◌≡◌, ℕ, zero, suc, ◌+◌, ◌-◌, ◌<◌, ◌≤◌, ◌⊎◌, inl, inr, List, [], ◌∷◌, ◌++◌, length, get_or, Contains, sym, ap, ◌∙◌, subst, arith, Bool, true, false}
use Rattle.std.proofs.lemmas.List.{get_or_default, get_or-take, length-take-le}
use Rattle.std.proofs.lemmas.List.Elements.{Contains-append_left, Contains-push, Contains-push_cases}
use Rattle.p21_values.specs.declared.value.Instance.{Instance}
use Rattle.placement.specs.declared.walk.Walk.{Walk}
use Rattle.placement.specs.Chains.{Ends, here, above, StandsIn, ParentsFirst, Reached, directly, further}
use Rattle.placement.specs.inner.Walks.{Ranked, Rest, Linked, Climbed, Outcome, Settling, Settled, IsFrom, Added, Visited}
use Rattle.placement.proofs.Walking.{same_or, first_push}

-- the next one goes into the order
pub settle_one : (world : List Instance) (order met : List ℕ) (start k : ℕ) → Rest world met start → start ≤ k → k < length met → Settling world order met start (k + 1) → Settling world (order ++ get_or met k 0 ∷ []) met start k
settle_one world order met start k rests le lt s =
    let stands : StandsIn world order (get_or met k 0) = elim (rests k le lt) [
      | inl none ↦ inl none
      | inr r ↦ inr (
        get_or met r.0 0,
        r.3,
        elim r.2 [
          | inl before ↦ s.ordered r.0 r.1 (inl before)
          | inr next ↦ (let from : k + 1 ≤ r.0 = omega (arith, next) in s.ordered r.0 r.1 (inr from))
        ],
      )
    ] in
    record {
      first = first_push world order (get_or met k 0) s.first stands;
      ordered = λ j lj w. elim (same_or j k) [
        | inl e ↦ subst (λ n. Contains (order ++ get_or met k 0 ∷ []) (get_or met n 0)) (sym e) (Contains-push order (get_or met k 0))
        | inr n ↦ Contains-append_left order (get_or met k 0 ∷ []) (get_or met j 0) (s.ordered j lj (elim w [ inl a ↦ inl a | inr b ↦ inr (omega (arith, b, n)) ]))
      ];
    }

-- what was put at the end came from there on
pub from_one : (old met order : List ℕ) (k : ℕ) → 0 < k → k ≤ length met → ((id : ℕ) → Contains order id → Contains old id ⊎ IsFrom met k id)
    → (id : ℕ) → Contains (order ++ get_or met (k - 1) 0 ∷ []) id → Contains old id ⊎ IsFrom met (k - 1) id
from_one old met order k some le s id h = elim (Contains-push_cases order (get_or met (k - 1) 0) id h) [
  | inl c ↦ elim (s id c) [ inl a ↦ inl a | inr f ↦ (let b = f.1 in inr (f.0, omega arith, f.2, f.3)) ]
  | inr e ↦ inr (k - 1, omega arith, omega arith, e)
]

pub settle_next : (world : List Instance) (order met : List ℕ) (start k : ℕ) → Rest world met start → start < k → k ≤ length met → Settling world order met start k → Settling world (order ++ get_or met (k - 1) 0 ∷ []) met start (k - 1)
settle_next world order met start k rests lt le s =
    let e : k ≡ (k - 1) + 1 = omega arith in
    settle_one world order met start (k - 1) rests (omega arith) (omega arith) (subst (λ n. Settling world order met start n) e s)

ends_below : (world : List Instance) (ids : List ℕ) → ParentsFirst world ids → (n : ℕ) → n ≤ length ids → (k : ℕ) → k < n → Ends world (get_or ids k 0)
ends_below world ids h zero le k lt = absurd (omega (arith, lt))
ends_below world ids h (suc n) le k lt = elim (same_or k n) [
  | inl e ↦ (
      let l : n < length ids = omega (arith, le) in
      let s = h n 0 l in
      subst (λ m. Ends world (get_or ids m 0)) (sym e) (elim s [
        | inl none ↦ here (get_or ids n 0) none
        | inr r ↦ (
            let lj : r.2.0 < n = omega (arith, r.2.1, length-take-le n ids (omega arith)) in
            let same : get_or ids r.2.0 0 ≡ r.0 = get_or_default ids r.2.0 0 r.0 (omega (arith, lj, l)) ∙ sym (get_or-take n ids r.2.0 r.0 lj) ∙ r.2.2 in
            above (get_or ids n 0) r.0 r.1 (subst (λ m. Ends world m) same (ends_below world ids h n (omega (arith, le)) r.2.0 lj)))
      ]))
  | inr n2 ↦ ends_below world ids h n (omega (arith, le)) k (omega (arith, lt, n2))
]

-- the chain of each placement in the order ends
pub order_ends : (world : List Instance) (ids : List ℕ) → ParentsFirst world ids → (x : ℕ) → Contains ids x → Ends world x
order_ends world ids h x c =
    subst (λ m. Ends world m) (get_or_default ids c.0 0 x c.1 ∙ c.2) (ends_below world ids h (length ids) (omega arith) c.0 c.1)

-- what was met on the way up from one that is named is reached
linked_reached : (world : List Instance) (named met : List ℕ) (start id : ℕ) → Linked world met start id → Contains named id → (n : ℕ) → start + n < length met → Reached world named (get_or met (start + n) 0)
linked_reached world named met start id l c zero lt =
    let e : start + 0 ≡ start = omega arith in
    subst (λ k. Reached world named (get_or met k 0)) (sym e) (subst (λ x. Reached world named x) (sym (l.first (omega (arith, lt)))) (directly id c))
linked_reached world named met start id l c (suc n) lt =
    let e : (start + n) + 1 ≡ start + suc n = omega arith in
    let stands = l.next (start + n) (omega arith) (omega (arith, lt)) in
    subst (λ k. Reached world named (get_or met k 0)) e (further (get_or met (start + n) 0) (get_or met ((start + n) + 1) 0) stands (linked_reached world named met start id l c n (omega (arith, lt))))

from_reached : (world : List Instance) (named met : List ℕ) (start id other : ℕ) → Linked world met start id → Contains named id → IsFrom met start other → Reached world named other
from_reached world named met start id other l c f =
    let le = f.1 in
    let lt = f.2 in
    let e : start + (f.0 - start) ≡ f.0 = omega arith in
    subst (λ x. Reached world named x) (ap (λ k. get_or met k 0) e ∙ f.3) (linked_reached world named met start id l c (f.0 - start) (omega arith))

pub climbed_when : (world : List Instance) (met : List ℕ) (start id : ℕ) (b : Bool) → b ≡ true → Outcome world met start id b → Climbed world met start id
climbed_when world met start id true e h = h
climbed_when world met start id false e h = absurd (cc)

pub added_when : (world : List Instance) (old new : Walk) (id : ℕ) (b : Bool) → b ≡ true → Visited world old new id b → Added world old new id
added_when world old new id true e h = h
added_when world old new id false e h = absurd (cc)

pub never_visited : (world : List Instance) (old new : Walk) (id : ℕ) (b : Bool) → b ≡ false → Visited world old new id b → Ends world id → ⊥
never_visited world old new id true e h = absurd (cc)
never_visited world old new id false e h = h

pub visited : (world : List Instance) (old middle new : Walk) (id : ℕ) → Settled world old → Ranked world middle.ranks.items middle.met.items → middle.order.items ≡ old.order.items
    → length old.met.items ≤ length middle.met.items → ((k : ℕ) → k < length old.met.items → get_or middle.met.items k 0 ≡ get_or old.met.items k 0)
    → Climbed world middle.met.items (length old.met.items) id → new.ranks.items ≡ middle.ranks.items → new.met.items ≡ middle.met.items
    → length new.order.items + length old.met.items ≡ length middle.order.items + length middle.met.items
    → ((other : ℕ) → Contains middle.order.items other → Contains new.order.items other)
    → ((other : ℕ) → Contains new.order.items other → Contains middle.order.items other ⊎ IsFrom middle.met.items (length old.met.items) other)
    → ((w : List Instance) → Rest w middle.met.items (length old.met.items) → Settling w middle.order.items middle.met.items (length old.met.items) (length middle.met.items) → Settling w new.order.items middle.met.items (length old.met.items) (length old.met.items))
    → Added world old new id
visited world old middle new id s ranked o longer kept climbed r m count grows sound settle =
    let before : Settling world middle.order.items middle.met.items (length old.met.items) (length middle.met.items) = record {
      first = subst (λ ids. ParentsFirst world ids) (sym o) s.first;
      ordered = λ k lk w. elim w [
        | inl a ↦ subst (λ ids. Contains ids (get_or middle.met.items k 0)) (sym o) (subst (λ n. Contains old.order.items n) (sym (kept k a)) (s.ordered k a))
        | inr b ↦ absurd (omega (arith, lk, b))
      ];
    } in
    let after = settle world climbed.rests before in
    let all : (k : ℕ) → k < length middle.met.items → Contains new.order.items (get_or middle.met.items k 0) = λ k lk. after.ordered k lk (split k (length old.met.items)) in
    let c = climbed.found in
    record {
      settled = record {
        ranked = subst (λ ranks. Ranked world ranks new.met.items) (sym r) (subst (λ met. Ranked world middle.ranks.items met) (sym m) ranked);
        first = after.first;
        ordered = subst (λ met. (k : ℕ) → k < length met → Contains new.order.items (get_or met k 0)) (sym m) all;
        few = let e = ap length o in let f = ap length m in let g = s.few in omega arith;
      };
      found = subst (λ n. Contains new.order.items n) (get_or_default middle.met.items c.0 0 id c.1 ∙ c.2) (all c.0 c.1);
      grows = λ other h. grows other (subst (λ ids. Contains ids other) (sym o) h);
      reached = λ named listed all other h. elim (sound other h) [
        | inl before ↦ all other (subst (λ ids. Contains ids other) o before)
        | inr from ↦ from_reached world named middle.met.items (length old.met.items) id other climbed.linked listed from
      ];
    }
  where
    split : (k n : ℕ) → (k < n) ⊎ (n ≤ k)
    split k n = grind arith
