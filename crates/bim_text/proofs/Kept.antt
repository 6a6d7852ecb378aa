-- What is kept of digits says what they write, and is there exactly where at most 34 are significant.
use Rattle.std.proofs.Common.{◌≡◌, ℕ, ◌+◌, ◌-◌, ◌*◌, ◌%◌, ◌^◌, ◌<◌, ◌≤◌, ◌==◌, ◌⊎◌, inl, inr, List, [], ◌∷◌, ◌++◌, length, true, false, nat_lt, refl, ap, add-one, arith, Option, Some, None, option_and_then, lt-ltb, le-ltb}
use Rattle.std.proofs.Math.Nat.{pow-suc, pow-le-pow_right}
use Rattle.std.proofs.lemmas.Bool.{eqb-true, ltb-true, ltb-false, cases_Bool, and_parts}
use Rattle.std.proofs.lemmas.Bool.Decides.{nat_tests}
use Rattle.std.proofs.lemmas.List.{append-nil}
use Rattle.std.proofs.lemmas.List.Folds.{list_all-append}
use Rattle.bim_text.specs.declared.digits.Digits.{Digits}
use Rattle.bim_text.specs.NumberSpellings.{AreDigits, from_first, significant}
use Rattle.p21_lexer.specs.Spelling.{is_digit, value_after}
use Rattle.bim_text.specs.inner.NumberScanning.{kept_zero, kept_digit, kept_step, kept_after}
use Rattle.bim_text.proofs.Truths.{digit_low, digit_high}
use Rattle.bim_text.proofs.Significant.{value_snoc, significant_digit, significant_zero, significant_grows, snoc_cons, value_low, value_high}

pub record Describes (ds : List ℕ) (k : Digits) : Type 0 where
  pub digits : AreDigits ds
  pub value : value_after 0 ds ≡ k.significand * 10 ^ k.zeros
  pub bounded : k.significand < 10 ^ 34
  pub stripped : 0 < k.significand → 0 < k.significand % 10
  pub few : significant ds ≤ 34
  pub room : k.all < 10 ^ 34
  pub exact : value_after 0 ds < 10 ^ 34 → k.all ≡ value_after 0 ds
  pub large : 10 ^ 34 ≤ value_after 0 ds → 10 ^ 33 ≤ k.all

-- the digits from the first that isn't 0 on are at most 33, where the number is below 10^33, and at least 34 else
power_33 : (n : ℕ) → 33 ≤ n → 10 ^ 33 ≤ 10 ^ n
power_33 n h = pow-le-pow_right {n = 10} (omega arith) h

few_first : (ds : List ℕ) → AreDigits ds → value_after 0 ds < 10 ^ 33 → length (from_first ds) ≤ 33
few_first ds all lt = elim (split (length (from_first ds))) [
  | inl h ↦ h
  | inr h ↦ absurd (omega (arith, power_33 _ h, value_low ds all (omega arith)))
]
  where
    split : (n : ℕ) → (n ≤ 33) ⊎ (33 ≤ n - 1)
    split n = grind arith

many_first : (ds : List ℕ) → AreDigits ds → 10 ^ 33 ≤ value_after 0 ds → 34 ≤ length (from_first ds)
many_first ds all le = elim (split (length (from_first ds))) [
  | inl h ↦ h
  | inr h ↦ absurd (omega (arith, value_high ds all, pow-le-pow_right {n = 10} (omega arith) h))
]
  where
    split : (n : ℕ) → (34 ≤ n) ⊎ (n ≤ 33)
    split n = grind arith

digits_snoc : (ds : List ℕ) (b : ℕ) → AreDigits ds → is_digit b ≡ true → AreDigits (ds ++ b ∷ [])
digits_snoc ds b all h = rw (list_all-append is_digit ds (b ∷ []), all, h) refl

-- `all` is below 10^33 exactly where the number is
all_low : (ds : List ℕ) (k : Digits) → Describes ds k → k.all < 10 ^ 33 → k.all ≡ value_after 0 ds
all_low ds k d lt = d.exact (grind (arith, d.large))

all_high : (ds : List ℕ) (k : Digits) → Describes ds k → 10 ^ 33 ≤ k.all → 10 ^ 33 ≤ value_after 0 ds
all_high ds k d le = grind (arith, d.exact)

describes_digit : (ds : List ℕ) (k : Digits) (b : ℕ) → Describes ds k → is_digit b ≡ true → (b == 48) ≡ false → k.all < 10 ^ 33 → Describes (ds ++ b ∷ []) (kept_digit k b)
describes_digit ds k b d h z lt =
    let e = all_low ds k d lt in
    let v = value_snoc 0 ds b in
    let low = digit_low b h in
    let high = digit_high b h in
    let some : 1 ≤ b - 48 = grind (arith, nat_tests) in
    record {
      digits = digits_snoc ds b d.digits h;
      value = omega arith;
      bounded = omega arith;
      stripped = λ _. omega (arith, some);
      few = omega (arith, significant_digit ds b z, few_first ds d.digits (omega arith));
      room = omega arith;
      exact = λ _. omega arith;
      large = λ far. omega (arith, far);
    }

kept_low : (k : Digits) → k.all < 10 ^ 33 → kept_zero k ≡ record { all = k.all * 10; significand = k.significand; zeros = k.zeros + 1 }
kept_low k h = let t : nat_lt k.all (10 ^ 33) ≡ true = lt-ltb _ _ h in rw t refl

kept_high : (k : Digits) → 10 ^ 33 ≤ k.all → kept_zero k ≡ record { all = k.all; significand = k.significand; zeros = k.zeros + 1 }
kept_high k h = let t : nat_lt k.all (10 ^ 33) ≡ false = le-ltb _ _ h in rw t refl

describes_zero : (ds : List ℕ) (k : Digits) → Describes ds k → Describes (ds ++ 48 ∷ []) (kept_zero k)
describes_zero ds k d =
    let v = value_snoc 0 ds 48 in
    let raised : value_after 0 ds * 10 ≡ k.significand * 10 ^ (k.zeros + 1) = rw (add-one k.zeros, pow-suc 10 k.zeros) (omega (arith, d.value)) in
    elim (split k.all) [
      | inl lt ↦ (let e = all_low ds k d lt in
          rw (kept_low k lt) (record {
            digits = digits_snoc ds 48 d.digits refl;
            value = omega (arith, v, raised);
            bounded = d.bounded;
            stripped = d.stripped;
            few = rw (significant_zero ds) d.few;
            room = omega arith;
            exact = λ _. omega (arith, v, e);
            large = λ far. omega (arith, far, v, e);
          }))
      | inr le ↦ (let far = all_high ds k d le in
          rw (kept_high k le) (record {
            digits = digits_snoc ds 48 d.digits refl;
            value = omega (arith, v, raised);
            bounded = d.bounded;
            stripped = d.stripped;
            few = rw (significant_zero ds) d.few;
            room = d.room;
            exact = λ near. absurd (omega (arith, near, far, v));
            large = λ _. le;
          }))
    ]
  where
    split : (n : ℕ) → (n < 10 ^ 33) ⊎ (10 ^ 33 ≤ n)
    split n = grind arith

-- what is kept of one more digit
unfoldable Stepped : List ℕ → Digits → ℕ → Option Digits → Type 0
Stepped ds k b None = 34 < significant (ds ++ b ∷ [])
Stepped ds k b (Some next) = Describes (ds ++ b ∷ []) next

stepped : (ds : List ℕ) (k : Digits) (b : ℕ) → Describes ds k → is_digit b ≡ true → Stepped ds k b (kept_step k b)
unfolding Stepped
stepped ds k b d h = elim (cases_Bool (b == 48)) [
  | inl z ↦ (let e = eqb-true _ _ z in rw (z, e) (describes_zero ds k d))
  | inr z ↦ rw z (elim (cases_Bool (nat_lt k.all (10 ^ 33))) [
    | inl t ↦ rw t (describes_digit ds k b d h z (ltb-true _ _ t))
    | inr t ↦ rw t (omega (arith, significant_digit ds b z, many_first ds d.digits (all_high ds k d (ltb-false _ _ t))))
  ])
]

-- what is kept of more digits
unfoldable pub Kept : List ℕ → Option Digits → Type 0
Kept ds None = 34 < significant ds
Kept ds (Some k) = Describes ds k

kept_more : (ds bs : List ℕ) (b : ℕ) (o : Option Digits) → ((next : Digits) → Describes (ds ++ b ∷ []) next → Kept (ds ++ (b ∷ bs)) (kept_after next bs))
    → (k : Digits) → Stepped ds k b o → Kept (ds ++ (b ∷ bs)) (option_and_then (λ (next : Digits). kept_after next bs) o)
unfolding Stepped Kept
kept_more ds bs b None more k s = let e = snoc_cons ds bs b in let g = significant_grows bs (ds ++ b ∷ []) in omega (arith, s, ap significant e, g)
kept_more ds bs b (Some next) more k s = more next s

pub kept_all : (es ds : List ℕ) (k : Digits) → Describes ds k → AreDigits es → Kept (ds ++ es) (kept_after k es)
unfolding Kept
kept_all [] ds k d all = rw (append-nil ds) d
kept_all (b ∷ bs) ds k d all =
    kept_more ds bs b (kept_step k b)
    (λ next s. rw (← snoc_cons ds bs b) (kept_all bs (ds ++ b ∷ []) next s (and_parts (is_digit b) _ all).1))
    k (stepped ds k b d (and_parts (is_digit b) _ all).0)
