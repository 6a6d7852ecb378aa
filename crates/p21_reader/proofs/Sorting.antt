-- Elements are looked at one after another, and none has a lesser number than the one before it.
use Rattle.std.proofs.Common.{◌≡◌, ℕ, ◌+◌, ◌-◌, ◌<◌, ◌≤◌, ◌⊎◌, inl, inr, List, length, get_or, false, arith, refl, ap, subst}
use Rattle.std.proofs.lemmas.List.{get_or_default}
use Rattle.std.specs.Ordering.{nat_cmp, is_lt}
use Rattle.std.specs.List.Sorted.{IsSortedWithin}
use Rattle.std.specs.declared.cmp.Ordering.{Ordering}
use Rattle.std.specs.declared.cmp.Ordering.TheVariants.{Less}
use Rattle.p21_reader.proofs.Doubles.{less_is}

not_less : (a b : ℕ) (o : Ordering) → nat_cmp a b ≡ o → b ≤ a → is_lt o ≡ false
not_less a b Less e n = absurd (let l = less_is a b e in omega (arith, l, n))
not_less a b o e n = refl

pub sorted_one : {A : Type 0} (f : A → ℕ) (xs : List A) → IsSortedWithin (λ x y. is_lt (nat_cmp (f x) (f y))) xs 0 1
sorted_one f xs k d le lt = absurd (omega (arith, lt))

last_or_before : (k at : ℕ) → k + 1 < at + 1 → (k + 1 < at) ⊎ ((at - 1 ≡ k) × (at ≡ k + 1))
last_or_before k at h = grind arith

neighbours : {A : Type 0} (f : A → ℕ) (xs : List A) (i j k : ℕ) (d e : A) → i ≡ k → j ≡ k + 1 → j < length xs → f (get_or xs i e) ≤ f (get_or xs j e) → is_lt (nat_cmp (f (get_or xs (k + 1) d)) (f (get_or xs k d))) ≡ false
neighbours f xs i j k d e a b l n =
    let P : ℕ → Type 0 = λ x. f (get_or xs x e) ≤ f (get_or xs j e) in
    let Q : ℕ → Type 0 = λ x. f (get_or xs k e) ≤ f (get_or xs x e) in
    let m : f (get_or xs k e) ≤ f (get_or xs (k + 1) e) = subst Q b (subst P a n) in
    let one = ap f (get_or_default xs k d e (omega (arith, l, b))) in
    let two = ap f (get_or_default xs (k + 1) d e (omega (arith, l, b))) in
    not_less (f (get_or xs (k + 1) d)) (f (get_or xs k d)) (nat_cmp (f (get_or xs (k + 1) d)) (f (get_or xs k d))) refl (omega (arith, m, one, two))

pub sorted_more : {A : Type 0} (f : A → ℕ) (xs : List A) (at : ℕ) (e : A) → 1 ≤ at → at < length xs → f (get_or xs (at - 1) e) ≤ f (get_or xs at e) → IsSortedWithin (λ x y. is_lt (nat_cmp (f x) (f y))) xs 0 at
    → IsSortedWithin (λ x y. is_lt (nat_cmp (f x) (f y))) xs 0 (at + 1)
sorted_more f xs at e b l n h k d le lt = elim (last_or_before k at lt) [
  | inl m ↦ h k d le m
  | inr m ↦ neighbours f xs (at - 1) at k d e m.0 m.1 l n
]
