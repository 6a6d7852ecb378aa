-- Heads that have the numbers of instances stand where these do.
use Rattle.std.proofs.Common.{◌≡◌, ℕ, ◌<◌, ◌≤◌, nat_lt, true, false, List, length, get_or, map, None, arith, sym, ap, subst, ◌∙◌}
use Rattle.std.proofs.lemmas.List.{get_or-map, length-map}
use Rattle.std.proofs.lemmas.Map.Keys.{non_decreasing_from_sorted}
use Rattle.std.specs.List.{HoldsAt}
use Rattle.std.specs.List.Sorted.{IsNonDecreasingBy, IsStrictlySortedBy}
use Rattle.std.specs.Ordering.{nat_cmp}
use Rattle.p21_values.specs.declared.instance_head.Head.{Head}
use Rattle.p21_values.specs.declared.value.Instance.{Instance}
use Rattle.p21_values.specs.InstanceLookup.{look}
use Rattle.p21_values.specs.InstancePlaces.{IsPlaceOf, Rises}
use Rattle.p21_values.proofs.PlaceLemmas.{risen_place, rising, halved_place, halved_none, some_instance}

abbrev pub SameIds : List Head → List Instance → Type 0
SameIds heads world = map (λ (h : Head). h.id) heads ≡ map (λ (i : Instance). i.id) world

abbrev pub some_head : Head
some_head = record { id = 0; word = 0; word_end = 0; first = 0; count = 0; code = 0 }

-- there are as many
pub as_many : (heads : List Head) (world : List Instance) → SameIds heads world → length heads ≡ length world
as_many heads world e =
    sym (length-map heads (λ (h : Head). h.id)) ∙ ap (λ (xs : List ℕ). length xs) e ∙ length-map world (λ (i : Instance). i.id)

-- the same number at each place
pub id_at : (heads : List Head) (world : List Instance) → SameIds heads world → (k : ℕ) (d : Head) (i : Instance) → k < length heads → (get_or heads k d).id ≡ (get_or world k i).id
id_at heads world e k d i lt =
    let n = as_many heads world e in
    sym (get_or-map (λ (h : Head). h.id) heads k d 0 lt) ∙ ap (λ (xs : List ℕ). get_or xs k 0) e ∙ get_or-map (λ (j : Instance). j.id) world k i 0 (omega (arith, n, lt))

-- where the numbers rise, a head that has the number stands at its place
pub place_there : (heads : List Head) (world : List Instance) (id at : ℕ) → SameIds heads world → Rises world → at < length heads → HoldsAt (λ (h : Head). h.id ≡ id) heads at → IsPlaceOf world id at
place_there heads world id at e r lt h =
    let n = as_many heads world e in
    risen_place world id at r (omega (arith, n, lt)) (sym (id_at heads world e at some_head some_instance lt) ∙ h some_head)

-- the heads' numbers don't fall
pub heads_rise : (heads : List Head) (world : List Instance) → SameIds heads world → Rises world → IsNonDecreasingBy (λ (h : Head). h.id) heads
heads_rise heads world e r = λ i j d le lt.
    let f : Head → ℕ = λ (h : Head). h.id in
    let s : IsStrictlySortedBy nat_cmp (map f heads) = subst (λ (xs : List ℕ). IsStrictlySortedBy nat_cmp xs) (sym e) r in
    let u = non_decreasing_from_sorted (map f heads) s i j d.id le (rw length-map lt) in
    let a = get_or-map f heads i d d.id (omega (arith, le, lt)) in
    let b = get_or-map f heads j d d.id lt in
    rw (← a, ← b) u

-- what is found by halving
pub halved_there : (heads : List Head) (world : List Instance) (id at : ℕ) → SameIds heads world → ((k : ℕ) (d : Head) → 0 ≤ k → k < at → nat_lt (get_or heads k d).id id ≡ true) → at < length heads
    → (get_or heads at some_head).id ≡ id → IsPlaceOf world id at
halved_there heads world id at e below lt h =
    let n = as_many heads world e in
    halved_place world id at
    (λ k d z l. let s = id_at heads world e k some_head d (omega (arith, l, lt)) in subst (λ (x : ℕ). nat_lt x id ≡ true) s (below k some_head z l))
    (omega (arith, n, lt))
    (sym (id_at heads world e at some_head some_instance lt) ∙ h)

pub halved_nowhere : (heads : List Head) (world : List Instance) (id at : ℕ) → SameIds heads world → Rises world → at ≤ length heads
    → ((k : ℕ) (d : Head) → 0 ≤ k → k < at → nat_lt (get_or heads k d).id id ≡ true)
    → ((k : ℕ) (d : Head) → at ≤ k → k < length heads → nat_lt (get_or heads k d).id id ≡ false)
    → (at < length heads → (get_or heads at some_head).id ≡ id → ⊥) → look world id ≡ None
halved_nowhere heads world id at e r w below above other =
    let n = as_many heads world e in
    halved_none world id at (rising world r)
    (λ k d z l. let s = id_at heads world e k some_head d (omega (arith, l, w)) in subst (λ (x : ℕ). nat_lt x id ≡ true) s (below k some_head z l))
    (λ k d g l. let lt : k < length heads = omega (arith, n, l) in let s = id_at heads world e k some_head d lt in subst (λ (x : ℕ). nat_lt x id ≡ false) s (above k some_head g lt))
    (λ l h. let lt : at < length heads = omega (arith, n, l) in other lt (id_at heads world e at some_head some_instance lt ∙ h))
