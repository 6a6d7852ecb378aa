-- How the place of an instance and what a number leads to belong together.
use Rattle.std.proofs.Common.{◌≡◌, ◌≢◌, ℕ, zero, suc, ◌<◌, ◌≤◌, ◌+◌, ◌==◌, nat_lt, ◌⊎◌, inl, inr, true, false, List, [], ◌∷◌, length, get_or, Some, None, refl, ap, map, sym, ◌∙◌, arith}
use Rattle.std.proofs.lemmas.Bool.{cases_Bool, eqb-true, eqb-false, ne_eqb}
use Rattle.std.proofs.lemmas.Bool.Decides.{nat_tests}
use Rattle.std.proofs.lemmas.List.{get_or_default, get_or-map, length-map}
use Rattle.std.proofs.lemmas.Option.{same_Some}
use Rattle.std.specs.List.{HoldsAt}
use Rattle.std.specs.List.Sorted.{IsNonDecreasingBy}
use Rattle.std.proofs.lemmas.Map.Keys.{non_decreasing_from_sorted, IsStrictlyIncreasing-from_sorted}
use Rattle.p21_values.specs.declared.value.Instance.{Instance}
use Rattle.p21_values.specs.InstancePlaces.{Rises}
use Rattle.p21_values.specs.InstanceLookup.{look}
use Rattle.p21_values.specs.InstancePlaces.{IsPlaceOf}

pub some_instance : Instance
some_instance = record { id = 0; keyword = None; values = [] }

-- one number is below the other, or they are the same
pub trichotomy : (a b : ℕ) → (a < b) ⊎ ((a ≡ b) ⊎ (b < a))
trichotomy a b = grind arith

eq_is : (a b : ℕ) → a ≡ b → (a == b) ≡ true
eq_is a b e = elim (cases_Bool (a == b)) [ inl t ↦ t | inr f ↦ absurd (eqb-false a b f e) ]

ne_is : (a b : ℕ) → (a ≡ b → ⊥) → (a == b) ≡ false
ne_is = ne_eqb

-- where no instance has the number, it leads to nothing
pub none_found : (world : List Instance) (id : ℕ) → ((k : ℕ) (d : Instance) → k < length world → (get_or world k d).id ≡ id → ⊥) → look world id ≡ None
unfolding look
none_found [] id h = refl
none_found (i ∷ is) id h = rw (ne_is i.id id (h 0 i (omega arith))) (none_found is id (λ k d lt. h (suc k) d (omega arith)))

found : (world : List Instance) (id at : ℕ) → at < length world → HoldsAt (λ (i : Instance). i.id ≡ id) world at → ((k : ℕ) → k < at → HoldsAt (λ (i : Instance). i.id ≢ id) world k)
    → (d : Instance) → look world id ≡ Some (get_or world at d)
unfolding look
found [] id at lt n f d = absurd (omega arith)
found (i ∷ is) id zero lt n f d = rw (eq_is i.id id (n d)) refl
found (i ∷ is) id (suc k) lt n f d = rw (ne_is i.id id (f 0 (omega arith) d)) (found is id k (omega arith) n (λ j l. f (suc j) (omega arith)) d)

-- a number leads to the instance at its place
pub found_at : (world : List Instance) (id at : ℕ) (d : Instance) → IsPlaceOf world id at → look world id ≡ Some (get_or world at d)
found_at world id at d p = found world id at p.within p.number p.first d

-- a number leads to one instance
pub same_instance : (world : List Instance) (id : ℕ) (i j : Instance) → look world id ≡ Some i → look world id ≡ Some j → i ≡ j
same_instance world id i j e f = same_Some i j (sym e ∙ f)

pub record PlaceFound (world : List Instance) (id : ℕ) (i : Instance) : Type 0 where
  pub at : ℕ
  pub place : IsPlaceOf world id at
  pub there : (d : Instance) → get_or world at d ≡ i

-- an instance that a number leads to has a place
pub place_found : (world : List Instance) (id : ℕ) (i : Instance) → look world id ≡ Some i → PlaceFound world id i
unfolding look
place_found [] id i h = cc
place_found (j ∷ js) id i h = elim (cases_Bool (j.id == id)) [
  | inl t ↦ (
      let e : j ≡ i = (let k = rw t at h in cc) in
      record { at = 0; place = record { within = omega arith; number = λ d. eqb-true j.id id t; first = λ k l. absurd (omega arith) }; there = λ d. e })
  | inr f ↦ (
      let k = rw f at h in
      let r = place_found js id i k in
      record {
        at = suc r.at;
        place = record {
          within = let w = r.place.within in omega arith;
          number = λ d. r.place.number d;
          first = λ n l. later js j id r.at f (r.place.first) n l;
        };
        there = λ d. r.there d;
      })
]
  where
    later : (js : List Instance) (j : Instance) (id at : ℕ) → (j.id == id) ≡ false → ((k : ℕ) → k < at → HoldsAt (λ (i : Instance). i.id ≢ id) js k) → (n : ℕ) → n < suc at → HoldsAt (λ (i : Instance). i.id ≢ id) (j ∷ js) n
    later js j id at f h zero l = λ d e. (let g = eq_is j.id id e in cc)
    later js j id at f h (suc n) l = λ d. h n (omega arith) d

-- a number has one place
pub place_once : (world : List Instance) (id a b : ℕ) → IsPlaceOf world id a → IsPlaceOf world id b → a ≡ b
place_once world id a b p q = elim (order a b) [
  | inl lt ↦ absurd (q.first a lt some_instance (p.number some_instance))
  | inr r ↦ elim r [
    | inl e ↦ e
    | inr gt ↦ absurd (p.first b gt some_instance (q.number some_instance))
  ]
]
  where
    order : (a b : ℕ) → (a < b) ⊎ ((a ≡ b) ⊎ (b < a))
    order a b = grind arith

-- what is found by halving the list, which rises
pub halved_place : (world : List Instance) (id at : ℕ) → ((k : ℕ) (d : Instance) → 0 ≤ k → k < at → (nat_lt (get_or world k d).id id) ≡ true) → at < length world → (get_or world at some_instance).id ≡ id → IsPlaceOf world id at
halved_place world id at below lt e = record {
  within = lt;
  number = λ d. ap (λ (i : Instance). i.id) (get_or_default world at d some_instance lt) ∙ e;
  first = λ k l d h. (let t = below k d (omega arith) l in grind (arith, nat_tests));
}

pub halved_none : (world : List Instance) (id at : ℕ) → IsNonDecreasingBy (λ (i : Instance). i.id) world
    → ((k : ℕ) (d : Instance) → 0 ≤ k → k < at → (nat_lt (get_or world k d).id id) ≡ true)
    → ((k : ℕ) (d : Instance) → at ≤ k → k < length world → (nat_lt (get_or world k d).id id) ≡ false)
    → (at < length world → (get_or world at some_instance).id ≡ id → ⊥) → look world id ≡ None
halved_none world id at rises below above other = none_found world id (λ k d lt e. elim (side k at) [
  | inl l ↦ (let t = below k d (omega arith) l in grind (arith, nat_tests))
  | inr g ↦ (
      let t = above k d g lt in
      let t2 = above at some_instance (omega arith) (omega arith) in
      let u = rises at k some_instance g lt in
      let v = ap (λ (i : Instance). i.id) (get_or_default world k d some_instance lt) in
      other (omega arith) (grind (arith, nat_tests)))
])
  where
    side : (k n : ℕ) → (k < n) ⊎ (n ≤ k)
    side k n = grind arith

-- the numbers of instances that rise don't fall
pub rising : (world : List Instance) → Rises world → IsNonDecreasingBy (λ (i : Instance). i.id) world
rising world r = λ i j d le lt.
    let f : Instance → ℕ = λ (k : Instance). k.id in
    let u = non_decreasing_from_sorted (map f world) r i j d.id le (rw length-map lt) in
    let a = get_or-map f world i d d.id (omega arith) in
    let b = get_or-map f world j d d.id lt in
    rw (← a, ← b) u

-- where numbers rise, one that has the number stands at its place
pub risen_place : (world : List Instance) (id at : ℕ) → Rises world → at < length world → (get_or world at some_instance).id ≡ id → IsPlaceOf world id at
risen_place world id at r lt e = record {
  within = lt;
  number = λ d. ap (λ (i : Instance). i.id) (get_or_default world at d some_instance lt) ∙ e;
  first = λ k l d h.
      let f : Instance → ℕ = λ (j : Instance). j.id in
      let s = IsStrictlyIncreasing-from_sorted (map f world) r k (rw length-map omega arith) in
      let a = get_or-map f world k d 0 (omega arith) in
      let b = get_or-map f world (k + 1) d 0 (omega arith) in
      let u = rising world r (k + 1) at d (omega arith) lt in
      let v = ap f (get_or_default world at d some_instance lt) in
      omega arith;
}
