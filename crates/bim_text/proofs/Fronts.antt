-- The digits at the front of bytes, and the number that digits write.
use Rattle.std.proofs.Common.{◌≡◌, ℕ, ◌+◌, ◌-◌, ◌*◌, ◌<◌, ◌≤◌, List, [], ◌∷◌, length, get_or, drop, true, false, refl, add-one, arith, drop-cons, Some, None}
use Rattle.std.specs.List.{list_all}
use Rattle.std.proofs.lemmas.Bool.{ne_eqb}
use Rattle.std.proofs.lemmas.List.{drop_all}
use Rattle.bim_text.specs.NumberSpellings.{Unsigned, Plus, Minus, sign_bytes}
use Rattle.p21_lexer.specs.Spelling.{is_digit, value_after}
use Rattle.bim_text.specs.inner.NumberScanning.{front, sign_at, fraction_at, exponent_at}

pub front_step : (bs : List ℕ) (i : ℕ) → i < length bs → is_digit (get_or bs i 0) ≡ true → front (drop i bs) ≡ get_or bs i 0 ∷ front (drop (i + 1) bs)
front_step bs i lt h = rw (add-one i, drop-cons bs i 0, h) refl

pub front_stop : (bs : List ℕ) (i : ℕ) → i < length bs → is_digit (get_or bs i 0) ≡ false → front (drop i bs) ≡ []
front_stop bs i lt h = rw (drop-cons bs i 0, h) refl

pub front_past : (bs : List ℕ) (i : ℕ) → length bs ≤ i → front (drop i bs) ≡ []
front_past bs i h = rw (drop_all i bs h) refl

pub ruleset fronts = (front_step, front_stop, front_past)

-- the number grows
pub value_grows : (n : ℕ) (bs : List ℕ) → n ≤ value_after n bs
value_grows n [] = omega arith
value_grows n (b ∷ bs) = omega (arith, value_grows (n * 10 + (b - 48)) bs)

pub value_step : (n : ℕ) (bs : List ℕ) (i : ℕ) → i < length bs → value_after n (drop i bs) ≡ value_after (n * 10 + (get_or bs i 0 - 48)) (drop (i + 1) bs)
value_step n bs i lt = rw (add-one i, drop-cons bs i 0) refl

pub value_past : (n : ℕ) (bs : List ℕ) (i : ℕ) → length bs ≤ i → value_after n (drop i bs) ≡ n
value_past n bs i h = rw (drop_all i bs h) refl

pub digits_step : (bs : List ℕ) (i : ℕ) → i < length bs → is_digit (get_or bs i 0) ≡ true → list_all is_digit (drop i bs) ≡ list_all is_digit (drop (i + 1) bs)
digits_step bs i lt h = rw (add-one i, drop-cons bs i 0, h) refl

pub digits_stop : (bs : List ℕ) (i : ℕ) → i < length bs → is_digit (get_or bs i 0) ≡ false → list_all is_digit (drop i bs) ≡ false
digits_stop bs i lt h = rw (drop-cons bs i 0, h) refl

pub digits_past : (bs : List ℕ) (i : ℕ) → length bs ≤ i → list_all is_digit (drop i bs) ≡ true
digits_past bs i h = rw (drop_all i bs h) refl

pub ruleset writings = (value_grows, value_step, value_past, digits_step, digits_stop, digits_past)

-- signs, points and exponents at a place

pub sign_plus : (bs : List ℕ) (i : ℕ) → i < length bs → get_or bs i 0 ≡ 43 → sign_at (drop i bs) ≡ Plus
sign_plus bs i lt h = rw (drop-cons bs i 0, h) refl

pub sign_minus : (bs : List ℕ) (i : ℕ) → i < length bs → get_or bs i 0 ≡ 45 → sign_at (drop i bs) ≡ Minus
sign_minus bs i lt h = rw (drop-cons bs i 0, h) refl

pub sign_other : (bs : List ℕ) (i : ℕ) → i < length bs → (get_or bs i 0 ≡ 43 → ⊥) → (get_or bs i 0 ≡ 45 → ⊥) → sign_at (drop i bs) ≡ Unsigned
sign_other bs i lt h k = let a = ne_eqb _ _ h in let b = ne_eqb _ _ k in rw (drop-cons bs i 0, a, b) refl

pub sign_past : (bs : List ℕ) (i : ℕ) → length bs ≤ i → sign_at (drop i bs) ≡ Unsigned
sign_past bs i h = rw (drop_all i bs h) refl

pub ruleset signs = (sign_plus, sign_minus, sign_other, sign_past)

pub point_step : (bs : List ℕ) (i : ℕ) → i < length bs → get_or bs i 0 ≡ 46 → fraction_at (drop i bs) ≡ Some (front (drop (i + 1) bs))
point_step bs i lt h = rw (add-one i, drop-cons bs i 0, h) refl

pub point_other : (bs : List ℕ) (i : ℕ) → i < length bs → (get_or bs i 0 ≡ 46 → ⊥) → fraction_at (drop i bs) ≡ None
point_other bs i lt h = let a = ne_eqb _ _ h in rw (drop-cons bs i 0, a) refl

pub point_past : (bs : List ℕ) (i : ℕ) → length bs ≤ i → fraction_at (drop i bs) ≡ None
point_past bs i h = rw (drop_all i bs h) refl

pub ruleset points = (point_step, point_other, point_past)

pub exponent_step : (bs : List ℕ) (i : ℕ) → i < length bs → exponent_at (drop i bs) ≡ Some (record {
  mark = get_or bs i 0;
  sign = sign_at (drop (i + 1) bs);
  digits = drop (length (sign_bytes (sign_at (drop (i + 1) bs)))) (drop (i + 1) bs);
})
exponent_step bs i lt = rw (add-one i, drop-cons bs i 0) refl

pub exponent_past : (bs : List ℕ) (i : ℕ) → length bs ≤ i → exponent_at (drop i bs) ≡ None
exponent_past bs i h = rw (drop_all i bs h) refl

pub ruleset exponents = (exponent_step, exponent_past)
