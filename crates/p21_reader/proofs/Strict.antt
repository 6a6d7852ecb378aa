-- Instances whose numbers rise are one list.
use Rattle.std.proofs.Common.{◌≡◌, ℕ, ◌<◌, ◌≤◌, ◌⊎◌, inl, inr, zero, suc, List, [], ◌∷◌, map, length, get_or, IsPermutation, Contains, arith, refl, sym, ap, ◌∙◌}
use Rattle.std.proofs.lemmas.List.Sorted.{IsPermutation-sym, Contains-permutation}
use Rattle.std.specs.Ordering.{nat_cmp}
use Rattle.std.specs.List.{AllByRecursion}
use Rattle.std.specs.List.Sorted.{IsStrictlySortedBy}
use Rattle.std.specs.declared.cmp.Ordering.TheVariants.{Less}
use Rattle.p21_values.specs.declared.value.Instance.{Instance}
use Rattle.p21_values.specs.inner.Saying.{saying}
use Rattle.p21_values.specs.Counting.{times}
use Rattle.p21_values.specs.InstancePlaces.{Rises}
use Rattle.p21_reader.proofs.Doubles.{less_is, times_same, times_other, equal_or}

-- Lists that strictly rise by a number have one order.

abbrev pub AllAbove : {X : Type 0} → (X → ℕ) → ℕ → List X → Type 0
AllAbove n a [] = Unit {0}
AllAbove n a (x ∷ xs) = (a < n x) × AllAbove n a xs

abbrev pub Strict : {X : Type 0} → (X → ℕ) → List X → Type 0
Strict n [] = Unit {0}
Strict n (x ∷ xs) = AllAbove n (n x) xs × Strict n xs

abbrev Member : {X : Type 0} → List X → X → Type 0
Member [] z = ⊥
Member (x ∷ xs) z = (x ≡ z) ⊎ Member xs z

above_member : {X : Type 0} (n : X → ℕ) (a : ℕ) (xs : List X) (z : X) → AllAbove n a xs → Member xs z → a < n z
above_member n a [] z h m = absurd m
above_member n a (x ∷ xs) z h m = elim m [ inl e ↦ (let f = ap n e in omega (arith, h.0, f)) | inr k ↦ above_member n a xs z h.1 k ]

member_of : {X : Type 0} (xs : List X) (z : X) (k : ℕ) → k < length xs → get_or xs k z ≡ z → Member xs z
member_of [] z k lt e = absurd (omega (arith, lt))
member_of (x ∷ xs) z zero lt e = inl e
member_of (x ∷ xs) z (suc k) lt e = inr (member_of xs z k (omega (arith, lt)) e)

contains_of : {X : Type 0} (xs : List X) (z : X) → Member xs z → Contains xs z
contains_of [] z m = absurd m
contains_of (x ∷ xs) z m = elim m [ inl e ↦ (0, omega arith, e) | inr k ↦ (let r = contains_of xs z k in (suc r.0, omega (arith, r.1), r.2)) ]

same_members : {X : Type 0} (n : X → ℕ) (xs ys : List X) → Strict n xs → Strict n ys → ((z : X) → Member xs z → Member ys z) → ((z : X) → Member ys z → Member xs z) → xs ≡ ys
same_members n [] [] h k f g = refl
same_members n [] (y ∷ ys) h k f g = absurd (g y (inl refl))
same_members n (x ∷ xs) [] h k f g = absurd (f x (inl refl))
same_members {X} n (x ∷ xs) (y ∷ ys) h k f g =
    let same : x ≡ y = elim (f x (inl refl)) [
      | inl e ↦ sym e
      | inr m ↦ elim (g y (inl refl)) [ inl e ↦ e | inr l ↦ absurd (omega (arith, above_member n (n y) ys x k.0 m, above_member n (n x) xs y h.0 l)) ]
    ] in
    let there : (z : X) → Member xs z → Member ys z = λ z m. elim (f z (inr m)) [
      | inl e ↦ absurd (let a = ap n same in let b = ap n e in omega (arith, above_member n (n x) xs z h.0 m, a, b))
      | inr l ↦ l
    ] in
    let back : (z : X) → Member ys z → Member xs z = λ z m. elim (g z (inr m)) [
      | inl e ↦ absurd (let a = ap n same in let b = ap n e in omega (arith, above_member n (n y) ys z k.0 m, a, b))
      | inr l ↦ l
    ] in
    ap (λ z. z ∷ xs) same ∙ ap (λ z. y ∷ z) (same_members n xs ys h.1 k.1 there back)

pub same_strict : {X : Type 0} (n : X → ℕ) (xs ys : List X) → Strict n xs → Strict n ys → IsPermutation xs ys → xs ≡ ys
same_strict n xs ys h k p = same_members n xs ys h k
    (λ z m. let c = Contains-permutation xs ys z p (contains_of xs z m) in member_of ys z c.0 c.1 c.2)
    (λ z m. let c = Contains-permutation ys xs z (IsPermutation-sym xs ys p) (contains_of ys z m) in member_of xs z c.0 c.1 c.2)

-- Instances whose numbers rise.

above_from : (a : ℕ) (xs : List Instance) → AllByRecursion (λ y. nat_cmp a y ≡ Less) (map (λ (i : Instance). i.id) xs) → AllAbove (λ s. s.0) a (map saying xs)
above_from a [] h = tt
above_from a (x ∷ xs) h = (less_is a x.id h.0, above_from a xs h.1)

pub strict_from : (xs : List Instance) → Rises xs → Strict (λ s. s.0) (map saying xs)
unfolding IsStrictlySortedBy
strict_from [] h = tt
strict_from (x ∷ xs) h = (above_from x.id xs h.0, strict_from xs h.1)

never : (id a : ℕ) (xs : List Instance) → AllByRecursion (λ y. nat_cmp a y ≡ Less) (map (λ (i : Instance). i.id) xs) → id ≤ a → times id xs ≡ 0
never id a [] h le = refl
never id a (x ∷ xs) h le = let l = less_is a x.id h.0 in times_other id x xs (λ e. omega (arith, l, le, e)) ∙ never id a xs h.1 le

pub rises_once : (id : ℕ) (xs : List Instance) → Rises xs → times id xs ≤ 1
unfolding IsStrictlySortedBy
rises_once id [] h = omega arith
rises_once id (x ∷ xs) h = elim (equal_or x.id id) [
  | inl e ↦ omega (arith, times_same id x xs e, never id x.id xs h.0 (omega (arith, e)))
  | inr n ↦ omega (arith, times_other id x xs n, rises_once id xs h.1)
]
