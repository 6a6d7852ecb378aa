-- How many significant digits there are, and how great the number is that they write.
use Rattle.std.proofs.Common.{◌≡◌, ℕ, suc, ◌+◌, ◌-◌, ◌*◌, ◌^◌, ◌<◌, ◌≤◌, ◌==◌, ◌⊎◌, inl, inr, List, [], ◌∷◌, ◌++◌, length, reverse, false, refl, ap, arith}
use Rattle.std.proofs.Math.Nat.{pow-suc, mul-le-mul_left}
use Rattle.std.proofs.lemmas.Bool.{eqb-true, cases_Bool, and_parts}
use Rattle.std.proofs.lemmas.Bool.Decides.{nat_tests}
use Rattle.std.proofs.lemmas.List.{reverse-append, length-reverse, append-nil}
use Rattle.bim_text.specs.NumberSpellings.{AreDigits, from_first, significant}
use Rattle.p21_lexer.specs.Spelling.{is_digit, value_after}
use Rattle.bim_text.proofs.Quotients.{times}
use Rattle.bim_text.proofs.Truths.{digit_low, digit_high}

-- one more digit

pub value_snoc : (n : ℕ) (ds : List ℕ) (b : ℕ) → value_after n (ds ++ b ∷ []) ≡ value_after n ds * 10 + (b - 48)
value_snoc n [] b = refl
value_snoc n (d ∷ ds) b = value_snoc (n * 10 + (d - 48)) ds b

pub first_digit : (ds : List ℕ) (b : ℕ) → (b == 48) ≡ false → from_first (ds ++ b ∷ []) ≡ from_first ds ++ b ∷ []
first_digit [] b h = rw h refl
first_digit (d ∷ ds) b h = elim (cases_Bool (d == 48)) [
  | inl k ↦ rw k (first_digit ds b h)
  | inr k ↦ rw k refl
]

first_zero : (ds : List ℕ) → ((from_first (ds ++ 48 ∷ []) ≡ []) × (from_first ds ≡ [])) ⊎ (from_first (ds ++ 48 ∷ []) ≡ from_first ds ++ 48 ∷ [])
first_zero [] = inl (refl, refl)
first_zero (d ∷ ds) = elim (cases_Bool (d == 48)) [
  | inl k ↦ rw k (first_zero ds)
  | inr k ↦ rw k (inr refl)
]

pub significant_digit : (ds : List ℕ) (b : ℕ) → (b == 48) ≡ false → significant (ds ++ b ∷ []) ≡ length (from_first ds) + 1
significant_digit ds b h = rw (first_digit ds b h, reverse-append (from_first ds) (b ∷ []), h) (omega (arith, length-reverse (from_first ds)))

pub significant_zero : (ds : List ℕ) → significant (ds ++ 48 ∷ []) ≡ significant ds
significant_zero ds = elim (first_zero ds) [
  | inl e ↦ rw (e.0, e.1) refl
  | inr e ↦ rw (e, reverse-append (from_first ds) (48 ∷ [])) refl
]

pub length_first : (ds : List ℕ) → length (from_first ds) ≤ length ds
length_first [] = omega arith
length_first (d ∷ ds) = elim (cases_Bool (d == 48)) [
  | inl k ↦ rw k (omega (arith, length_first ds))
  | inr k ↦ rw k (omega arith)
]

pub significant_most : (ds : List ℕ) → significant ds ≤ length (from_first ds)
significant_most ds = omega (arith, length_first (reverse (from_first ds)), length-reverse (from_first ds))

significant_next : (ds : List ℕ) (b : ℕ) → significant ds ≤ significant (ds ++ b ∷ [])
significant_next ds b = elim (cases_Bool (b == 48)) [
  | inl k ↦ (let e : b ≡ 48 = eqb-true _ _ k in rw (e, significant_zero ds) (omega arith))
  | inr k ↦ omega (arith, significant_digit ds b k, significant_most ds)
]

pub snoc_cons : (ds es : List ℕ) (b : ℕ) → (ds ++ b ∷ []) ++ es ≡ ds ++ (b ∷ es)
snoc_cons [] es b = refl
snoc_cons (d ∷ ds) es b = ap (λ (l : List ℕ). d ∷ l) (snoc_cons ds es b)

-- more digits are never fewer significant ones
pub significant_grows : (es ds : List ℕ) → significant ds ≤ significant (ds ++ es)
significant_grows [] ds = rw (append-nil ds) (omega arith)
significant_grows (b ∷ es) ds =
    rw (← snoc_cons ds es b) (omega (arith, significant_next ds b, significant_grows es (ds ++ b ∷ [])))

-- how great the number is

low_after : (n : ℕ) (ds : List ℕ) → n * 10 ^ length ds ≤ value_after n ds
low_after n [] = omega arith
low_after n (d ∷ ds) =
    let more = low_after (n * 10 + (d - 48)) ds in
    rw (pow-suc 10 (length ds)) (omega (arith, more))

high_after : (n : ℕ) (ds : List ℕ) → AreDigits ds → value_after n ds + 1 ≤ (n + 1) * 10 ^ length ds
high_after n [] all = omega arith
high_after n (d ∷ ds) all =
    let more = high_after (n * 10 + (d - 48)) ds (and_parts (is_digit d) _ all).1 in
    let top = digit_high d (and_parts (is_digit d) _ all).0 in
    let up : (n * 10 + (d - 48) + 1) * 10 ^ length ds ≤ (n + 1) * 10 * 10 ^ length ds = times (10 ^ length ds) (n * 10 + (d - 48) + 1) ((n + 1) * 10) (omega arith) in
    rw (pow-suc 10 (length ds)) (omega (arith, more, up))

from_zero : (n : ℕ) (ds : List ℕ) → n ≡ 0 → value_after n ds ≡ value_after 0 ds
from_zero n ds e = ap (λ (x : ℕ). value_after x ds) e

-- a first digit that isn't 0 is 1 to 9
some_digit : (d : ℕ) → 48 ≤ d → (d == 48) ≡ false → 1 ≤ d - 48
some_digit d low k = grind (arith, nat_tests)

first_low : (d : ℕ) (ds : List ℕ) → 48 ≤ d → (d == 48) ≡ false → 10 ^ (suc (length ds) - 1) ≤ value_after (0 * 10 + (d - 48)) ds
first_low d ds low k =
    let one = some_digit d low k in
    let e : suc (length ds) - 1 ≡ length ds = omega arith in
    let up = mul-le-mul_left (10 ^ length ds) one in
    rw e (omega (arith, low_after (0 * 10 + (d - 48)) ds, up))

pub value_low : (ds : List ℕ) → AreDigits ds → 0 < length (from_first ds) → 10 ^ (length (from_first ds) - 1) ≤ value_after 0 ds
value_low [] all lt = absurd (omega arith)
value_low (d ∷ ds) all lt = elim (cases_Bool (d == 48)) [
  | inl k ↦ (let e = eqb-true _ _ k in
      let z = from_zero (0 * 10 + (d - 48)) ds (omega arith) in
      let lt2 : 0 < length (from_first ds) = rw k at lt in
      rw (k, z) (value_low ds (and_parts (is_digit d) _ all).1 lt2))
  | inr k ↦ rw k (first_low d ds (digit_low d (and_parts (is_digit d) _ all).0) k)
]

first_high : (d : ℕ) (ds : List ℕ) → d ≤ 57 → AreDigits ds → value_after (0 * 10 + (d - 48)) ds < 10 ^ suc (length ds)
first_high d ds top all =
    let up = mul-le-mul_left {m = 0 * 10 + (d - 48) + 1} {n = 10} (10 ^ length ds) (omega arith) in
    rw (pow-suc 10 (length ds)) (omega (arith, high_after (0 * 10 + (d - 48)) ds all, up))

pub value_high : (ds : List ℕ) → AreDigits ds → value_after 0 ds < 10 ^ length (from_first ds)
value_high [] all = omega arith
value_high (d ∷ ds) all = elim (cases_Bool (d == 48)) [
  | inl k ↦ (let e = eqb-true _ _ k in
      let z = from_zero (0 * 10 + (d - 48)) ds (omega arith) in
      rw (k, z) (value_high ds (and_parts (is_digit d) _ all).1))
  | inr k ↦ rw k (first_high d ds (digit_high d (and_parts (is_digit d) _ all).0) (and_parts (is_digit d) _ all).1)
]
