-- The least number that two instances have, found among instances that are sorted.
use Rattle.std.proofs.Common.{◌≡◌, ℕ, ◌+◌, ◌-◌, ◌<◌, ◌≤◌, ◌==◌, ◌⊎◌, inl, inr, zero, suc, List, [], ◌∷◌, length, get_or, drop, map, Option, Some, None, true, false, cond, nat_lt, arith, refl, sym, ap, subst, ◌∙◌, drop-cons}
use Rattle.std.proofs.lemmas.Bool.{eqb-true, cases_Bool}
use Rattle.std.proofs.lemmas.Bool.Decides.{nat_tests}
use Rattle.std.proofs.Math.ListN.{get_or-map}
use Rattle.std.proofs.lemmas.List.{length-map}
use Rattle.std.proofs.lemmas.List.Sums.{sum_by-cons}
use Rattle.std.proofs.lemmas.List.Sorted.{IsNonDecreasingBy-from_sort}
use Rattle.std.specs.Ordering.{nat_cmp}
use Rattle.std.specs.Cmp.{nat_cmp_is}
use Rattle.std.specs.List.{AllByRecursion}
use Rattle.std.specs.List.Sorted.{IsSortedByKey, IsNonDecreasingBy, IsStrictlySortedBy}
use Rattle.std.specs.declared.cmp.Ordering.TheVariants.{Less}
use Rattle.p21_values.specs.declared.value.Instance.{Instance}
use Rattle.p21_values.specs.Counting.{times}
use Rattle.p21_reader.specs.Uploads.{IsLeastDouble}

-- Instances sorted by their numbers, and the first number that two of them have.

not_equal : (a b : ℕ) → (a == b) ≡ false → a ≡ b → ⊥
not_equal a b h e = grind (arith, nat_tests)

is_equal : (a b : ℕ) → a ≡ b → (a == b) ≡ true
is_equal a b e = grind (arith, nat_tests)

is_unequal : (a b : ℕ) → (a ≡ b → ⊥) → (a == b) ≡ false
is_unequal a b n = elim (cases_Bool (a == b)) [ inl t ↦ absurd (n (eqb-true a b t)) | inr f ↦ f ]

pub equal_or : (a b : ℕ) → (a ≡ b) ⊎ (a ≡ b → ⊥)
equal_or a b = elim (cases_Bool (a == b)) [ inl t ↦ inl (eqb-true a b t) | inr f ↦ inr (not_equal a b f) ]

pub less : (a b : ℕ) → a < b → nat_cmp a b ≡ Less
less a b h = sym (nat_cmp_is a b Less h)

pub less_is : (a b : ℕ) → nat_cmp a b ≡ Less → a < b
less_is a b h = elim (cases_Bool (nat_lt a b)) [
  | inl t ↦ grind (arith, nat_tests)
  | inr f ↦ (let k = rw f at h in elim (cases_Bool (a == b)) [ inl t ↦ (let l = rw t at k in cc) | inr g ↦ (let l = rw g at k in cc) ])
]

-- no number is less than the one before it
abbrev pub Climbs : List ℕ → Type 0
Climbs [] = Unit {0}
Climbs (n ∷ []) = Unit {0}
Climbs (n ∷ m ∷ more) = (n ≤ m) × Climbs (m ∷ more)

nondecreasing : {A : Type 0} (f : A → ℕ) (xs : List A) → IsNonDecreasingBy f xs → Climbs (map f xs)
nondecreasing f [] h = tt
nondecreasing f (x ∷ []) h = tt
nondecreasing f (x ∷ y ∷ more) h = (h 0 1 x (omega arith) (omega arith), nondecreasing f (y ∷ more) (λ a b d le lt. h (suc a) (suc b) d (omega (arith, le)) (omega (arith, lt))))

pub climbs : {A : Type 0} (f : A → ℕ) (xs : List A) → IsSortedByKey f nat_cmp xs → Climbs (map f xs)
climbs f xs h = nondecreasing f xs (IsNonDecreasingBy-from_sort f xs h)

-- the first number that two neighbours have
abbrev pub first_double : List ℕ → Option ℕ
first_double [] = None
first_double (n ∷ []) = None
first_double (n ∷ m ∷ more) = cond (n == m) (Some m) (first_double (m ∷ more))

-- the instances' numbers
abbrev pub numbers : List Instance → List ℕ
numbers xs = map (λ (i : Instance). i.id) xs

pub times_cons : (id : ℕ) (i : Instance) (xs : List Instance) → times id (i ∷ xs) ≡ cond (i.id == id) 1 0 + times id xs
times_cons id i xs = sum_by-cons (λ (x : Instance). cond (x.id == id) 1 0) i xs

pub times_same : (id : ℕ) (i : Instance) (xs : List Instance) → i.id ≡ id → times id (i ∷ xs) ≡ 1 + times id xs
times_same id i xs e = times_cons id i xs ∙ ap (λ b. cond b 1 0 + times id xs) (is_equal i.id id e)

pub times_other : (id : ℕ) (i : Instance) (xs : List Instance) → (i.id ≡ id → ⊥) → times id (i ∷ xs) ≡ times id xs
times_other id i xs n = times_cons id i xs ∙ ap (λ b. cond b 1 0 + times id xs) (is_unequal i.id id n) ∙ omega arith

-- a number below the first one stands nowhere
below : (other : ℕ) (i : Instance) (xs : List Instance) → Climbs (numbers (i ∷ xs)) → other < i.id → times other (i ∷ xs) ≡ 0
below other i [] h lt = times_other other i [] (λ e. omega (arith, e, lt))
below other i (j ∷ xs) h lt = times_other other i (j ∷ xs) (λ e. omega (arith, e, lt)) ∙ below other j xs h.1 (omega (arith, lt, h.0))

two_there : (id : ℕ) (i j : Instance) (xs : List Instance) → i.id ≡ id → j.id ≡ id → 2 ≤ times id (i ∷ j ∷ xs)
two_there id i j xs e f = omega (arith, times_same id i (j ∷ xs) e, times_same id j xs f)

pub double_least : (xs : List Instance) (id : ℕ) → Climbs (numbers xs) → first_double (numbers xs) ≡ Some id → IsLeastDouble id xs
double_least [] id h e = cc
double_least (i ∷ []) id h e = cc
double_least (i ∷ j ∷ more) id h e = elim (cases_Bool (i.id == j.id)) [
  | inl t ↦ (let same : i.id ≡ j.id = eqb-true i.id j.id t in let f = rw t at e in let g : j.id ≡ id = cc in
      (two_there id i j more (same ∙ g) g, λ other lt. omega (arith, below other i (j ∷ more) h (omega (arith, lt, same, g)))))
  | inr u ↦ (let f = rw u at e in let r = double_least (j ∷ more) id h.1 f in (
    omega (arith, r.0, times_cons id i (j ∷ more)),
    λ other lt. elim (cases_Bool (i.id == other)) [
      | inl t ↦ (let same : i.id ≡ other = eqb-true i.id other t in
          omega (arith, times_same other i (j ∷ more) same, below other j more h.1 (let n = not_equal i.id j.id u in omega (arith, same, n, h.0))))
      | inr v ↦ omega (arith, times_other other i (j ∷ more) (not_equal i.id other v), r.1 other lt)
    ],
  ))
]

-- where no two neighbours have one number, each is below all that follow
above : (a : ℕ) (ns : List ℕ) (b : ℕ) → a < b → AllByRecursion (λ y. nat_cmp b y ≡ Less) ns → AllByRecursion (λ y. nat_cmp a y ≡ Less) ns
above a [] b lt h = tt
above a (n ∷ ns) b lt h = (less a n (omega (arith, lt, less_is b n h.0)), above a ns b lt h.1)

pub rises : (ns : List ℕ) → Climbs ns → first_double ns ≡ None → IsStrictlySortedBy nat_cmp ns
unfolding IsStrictlySortedBy
rises [] h e = tt
rises (n ∷ []) h e = (tt, tt)
rises (n ∷ m ∷ more) h e = elim (cases_Bool (n == m)) [
  | inl t ↦ (let f = rw t at e in cc)
  | inr u ↦ (let f = rw u at e in let r = rises (m ∷ more) h.1 f in let lt : n < m = (let k = not_equal n m u in omega (arith, k, h.0)) in
      ((less n m lt, above n more m lt r.0), r))
]

-- Two neighbours that are looked at.

here_at : (ns : List ℕ) (k at d : ℕ) → at ≡ suc k → at < length ns → get_or ns k d ≡ get_or ns at d → first_double (drop k ns) ≡ Some (get_or ns at d)
here_at ns k at d e = (let P : ℕ → Type 0 = λ a. a < length ns → get_or ns k d ≡ get_or ns a d → first_double (drop k ns) ≡ Some (get_or ns a d) in
    subst P (sym e) (λ lt n. rw (drop-cons ns k d (omega (arith, lt)), drop-cons ns (suc k) d lt, is_equal (get_or ns k d) (get_or ns (suc k) d) n) refl))

past_at : (ns : List ℕ) (k at d : ℕ) → at ≡ suc k → at < length ns → (get_or ns k d ≡ get_or ns at d → ⊥) → first_double (drop k ns) ≡ first_double (drop at ns)
past_at ns k at d e = (let P : ℕ → Type 0 = λ a. a < length ns → (get_or ns k d ≡ get_or ns a d → ⊥) → first_double (drop k ns) ≡ first_double (drop a ns) in
    subst P (sym e) (λ lt n. rw (drop-cons ns k d (omega (arith, lt)), drop-cons ns (suc k) d lt, is_unequal (get_or ns k d) (get_or ns (suc k) d) n) refl))

pub double_here : {A : Type 0} (f : A → ℕ) (xs : List A) (at : ℕ) (d : A) → 1 ≤ at → at < length xs → f (get_or xs (at - 1) d) ≡ f (get_or xs at d) → first_double (drop (at - 1) (map f xs)) ≡ Some (f (get_or xs at d))
double_here f xs at d h lt n =
    let l = length-map xs f in
    here_at (map f xs) (at - 1) at (f d) (omega (arith, h)) (omega (arith, lt, l)) (get_or-map f xs (at - 1) d ∙ n ∙ sym (get_or-map f xs at d)) ∙ ap Some (get_or-map f xs at d)

pub double_past : {A : Type 0} (f : A → ℕ) (xs : List A) (at : ℕ) (d : A) → 1 ≤ at → at < length xs → (f (get_or xs (at - 1) d) ≡ f (get_or xs at d) → ⊥) → first_double (drop (at - 1) (map f xs)) ≡ first_double (drop at (map f xs))
double_past f xs at d h lt n =
    let l = length-map xs f in
    past_at (map f xs) (at - 1) at (f d) (omega (arith, h)) (omega (arith, lt, l)) (λ e. n (sym (get_or-map f xs (at - 1) d) ∙ e ∙ get_or-map f xs at d))

nothing_left : (k : ℕ) → first_double (drop k []) ≡ None
nothing_left zero = refl
nothing_left (suc k) = refl

end_at : (ns : List ℕ) (k : ℕ) → length ns ≤ suc k → first_double (drop k ns) ≡ None
end_at [] k h = nothing_left k
end_at (n ∷ []) zero h = refl
end_at (n ∷ []) (suc k) h = nothing_left k
end_at (n ∷ m ∷ more) zero h = absurd (omega (arith, h))
end_at (n ∷ m ∷ more) (suc k) h = end_at (m ∷ more) k (omega (arith, h))

pub double_end : {A : Type 0} (f : A → ℕ) (xs : List A) (at : ℕ) → length xs ≤ at → first_double (drop (at - 1) (map f xs)) ≡ None
double_end f xs at h = let l = length-map xs f in end_at (map f xs) (at - 1) (omega (arith, h, l))
