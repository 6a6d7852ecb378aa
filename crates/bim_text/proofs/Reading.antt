-- What the steps of the reader say of the number that bytes spell.
use Rattle.std.proofs.Common.{◌≡◌, ℕ, ◌+◌, ◌*◌, ◌^◌, ◌<◌, ◌≤◌, List, [], length, drop, Bool, refl, sym, ap, subst, ◌∙◌, arith, Option, Some, None, IfNone, ℤ, pos, ◌-ℤ◌, ◌≤ℤ◌, neg_ℤ}
use Rattle.std.proofs.lemmas.List.{drop-drop}
use Rattle.bim_model.specs.declared.limits.TheConstants.{MOST_UPLOAD}
use Rattle.bim_text.specs.declared.limits.TheConstants.{MOST_EXPONENT}
use Rattle.bim_text.specs.declared.digits.Digits.{Digits}
use Rattle.bim_text.specs.declared.decimal.Decimal.{Decimal}
use Rattle.bim_text.specs.ScaledNumbers.{signed, SameValue}
use Rattle.bim_text.specs.NumberSpellings.{Spelling, sign_bytes, fraction_bytes, fraction_digits, IsExponent, IsRead, exponent_of, written, digits_of, significant, is_minus}
use Rattle.bim_text.specs.Decimals.{value_of}
use Rattle.bim_text.specs.inner.NumberScanning.{front, sign_at, fraction_at, exponent_at, unsigned, behind_front, behind_fraction, parts, kept_after}
use Rattle.bim_text.proofs.Significant.{significant_grows}
use Rattle.bim_text.proofs.Kept.{Describes, Kept, kept_all}
use Rattle.bim_text.proofs.Parts.{front_digits, fraction_are_digits, parts_whole, parts_only}

abbrev pub nothing : Digits
nothing = record { all = 0; significand = 0; zeros = 0 }

pub if_none : {A : Type 0} {P : Type 0} (o : Option A) → P → IfNone o P
if_none None h = h
if_none (Some x) h = tt

-- a number that is read has the parts of its bytes
read_parts : (bs : List ℕ) (s : Spelling) → IsRead s bs → IsRead (parts bs) bs
read_parts bs s r = let e = parts_only s bs r.number in subst (λ (x : Spelling). IsRead x bs) (sym e) r

-- places: a after the sign, b after the digits, c after the point and its digits
at_whole : (bs : List ℕ) (a : ℕ) → a ≡ 0 + length (sign_bytes (sign_at bs)) → drop a bs ≡ unsigned bs
at_whole bs a e = let f : a ≡ length (sign_bytes (sign_at bs)) = omega (arith, e) in ap (λ (n : ℕ). drop n bs) f

at_fraction : (bs : List ℕ) (a b : ℕ) → a ≡ 0 + length (sign_bytes (sign_at bs)) → b ≡ a + length (front (drop a bs)) → drop b bs ≡ behind_front (unsigned bs)
at_fraction bs a b e f =
    ap (λ (n : ℕ). drop n bs) f ∙ sym (drop-drop (length (front (drop a bs))) a bs) ∙ ap behind_front (at_whole bs a e)

at_exponent : (bs : List ℕ) (a b c : ℕ) → a ≡ 0 + length (sign_bytes (sign_at bs)) → b ≡ a + length (front (drop a bs)) → c ≡ b + length (fraction_bytes (fraction_at (drop b bs))) → drop c bs ≡ behind_fraction (behind_front (unsigned bs))
at_exponent bs a b c e f g =
    ap (λ (n : ℕ). drop n bs) g ∙ sym (drop-drop (length (fraction_bytes (fraction_at (drop b bs)))) b bs) ∙ ap behind_fraction (at_fraction bs a b e f)

-- what is kept of the digits before the point, and of all digits
nothing_kept : Describes [] nothing
nothing_kept = record {
  digits = refl;
  value = refl;
  bounded = omega arith;
  stripped = λ h. absurd (omega (arith, h));
  few = omega arith;
  room = omega arith;
  exact = λ _. refl;
  large = λ h. absurd (omega (arith, h));
}

kept_whole : (bs : List ℕ) → Kept (front bs) (kept_after nothing (front bs))
kept_whole bs = kept_all (front bs) [] nothing nothing_kept (front_digits bs)

whole_is : (ds : List ℕ) (o : Option Digits) (k : Digits) → o ≡ Some k → Kept ds o → Describes ds k
unfolding Kept
whole_is ds o k e h = rw e at h

whole_none : (ds : List ℕ) (o : Option Digits) → o ≡ None → Kept ds o → 34 < significant ds
unfolding Kept
whole_none ds o e h = rw e at h

pub digits_kept : (bs : List ℕ) (k l : Digits) → kept_after nothing (parts bs).whole ≡ Some k → kept_after k (fraction_digits (parts bs).fraction) ≡ Some l → Describes (digits_of (parts bs)) l
digits_kept bs k l e f =
    let whole = whole_is (parts bs).whole (kept_after nothing (parts bs).whole) k e (kept_whole (unsigned bs)) in
    let more = kept_all (fraction_digits (parts bs).fraction) (parts bs).whole k whole (fraction_are_digits (behind_front (unsigned bs))) in
    whole_is (digits_of (parts bs)) (kept_after k (fraction_digits (parts bs).fraction)) l f more

-- refusals

pub no_whole : (bs : List ℕ) (a : ℕ) → a ≡ 0 + length (sign_bytes (sign_at bs)) → None ≡ kept_after nothing (front (drop a bs)) → (s : Spelling) → IsRead s bs → ⊥
no_whole bs a e f s r =
    let p = read_parts bs s r in
    let many = whole_none (parts bs).whole (kept_after nothing (parts bs).whole) (sym (f ∙ ap (λ (l : List ℕ). kept_after nothing (front l)) (at_whole bs a e))) (kept_whole (unsigned bs)) in
    omega (arith, many, p.few, significant_grows (fraction_digits (parts bs).fraction) (parts bs).whole)

pub no_digits : (bs : List ℕ) (a b : ℕ) → a ≡ 0 + length (sign_bytes (sign_at bs)) → b ≡ a + length (front (drop a bs)) → b ≡ a → (s : Spelling) → IsRead s bs → ⊥
no_digits bs a b e f g s r =
    let p = read_parts bs s r in
    let n : length (front (drop a bs)) ≡ length (parts bs).whole = ap (λ (l : List ℕ). length (front l)) (at_whole bs a e) in
    omega (arith, p.number.some, n, f, g)

pub no_fraction : (bs : List ℕ) (a b : ℕ) (k : Digits) → a ≡ 0 + length (sign_bytes (sign_at bs)) → b ≡ a + length (front (drop a bs)) → Some k ≡ kept_after nothing (front (drop a bs)) → None ≡ kept_after k (fraction_digits (fraction_at (drop b bs))) → (s : Spelling) → IsRead s bs → ⊥
no_fraction bs a b k e f g h s r =
    let p = read_parts bs s r in
    let whole = whole_is (parts bs).whole (kept_after nothing (parts bs).whole) k (sym (g ∙ ap (λ (l : List ℕ). kept_after nothing (front l)) (at_whole bs a e))) (kept_whole (unsigned bs)) in
    let more = kept_all (fraction_digits (parts bs).fraction) (parts bs).whole k whole (fraction_are_digits (behind_front (unsigned bs))) in
    let many = whole_none (digits_of (parts bs)) (kept_after k (fraction_digits (parts bs).fraction)) (sym (h ∙ ap (λ (l : List ℕ). kept_after k (fraction_digits (fraction_at l))) (at_fraction bs a b e f))) more in
    omega (arith, many, p.few)

pub no_exponent : (bs : List ℕ) (a b c : ℕ) → a ≡ 0 + length (sign_bytes (sign_at bs)) → b ≡ a + length (front (drop a bs)) → c ≡ b + length (fraction_bytes (fraction_at (drop b bs)))
    → (IsExponent (exponent_at (drop c bs)) → neg_ℤ (pos MOST_EXPONENT) ≤ℤ exponent_of (exponent_at (drop c bs)) → exponent_of (exponent_at (drop c bs)) ≤ℤ pos MOST_EXPONENT → ⊥) → (s : Spelling) → IsRead s bs → ⊥
no_exponent bs a b c e f g h s r =
    let p = read_parts bs s r in
    let q = at_exponent bs a b c e f g in
    (rw q at h) p.number.exponent p.low p.high

-- the number that is read

pub read_is : (bs : List ℕ) (a b c : ℕ) (k l : Digits) → length bs ≤ MOST_UPLOAD
    → a ≡ 0 + length (sign_bytes (sign_at bs)) → b ≡ a + length (front (drop a bs)) → (b ≡ a → ⊥) → c ≡ b + length (fraction_bytes (fraction_at (drop b bs)))
    → Some k ≡ kept_after nothing (front (drop a bs)) → Some l ≡ kept_after k (fraction_digits (fraction_at (drop b bs)))
    → IsExponent (exponent_at (drop c bs)) → neg_ℤ (pos MOST_EXPONENT) ≤ℤ exponent_of (exponent_at (drop c bs)) → exponent_of (exponent_at (drop c bs)) ≤ℤ pos MOST_EXPONENT
    → Describes (digits_of (parts bs)) l × IsRead (parts bs) bs
read_is bs a b c k l short e f n g x y is low high =
    let w = at_whole bs a e in
    let v = at_fraction bs a b e f in
    let q = at_exponent bs a b c e f g in
    let d = digits_kept bs k l (sym (x ∙ ap (λ (m : List ℕ). kept_after nothing (front m)) w)) (sym (y ∙ ap (λ (m : List ℕ). kept_after k (fraction_digits (fraction_at m))) v)) in
    let size : length (front (drop a bs)) ≡ length (parts bs).whole = ap (λ (m : List ℕ). length (front m)) w in (
      d,
      record {
        number = record {
          whole = parts_whole bs;
          digits = front_digits (unsigned bs);
          some = pos_of_ne (length (parts bs).whole) (λ z. n (omega (arith, z, size, f)));
          fraction = fraction_are_digits (behind_front (unsigned bs));
          exponent = rw q at is;
        };
        short = short;
        few = d.few;
        low = rw q at low;
        high = rw q at high;
      },
    )
  where
    pos_of_ne : (n : ℕ) → (n ≡ 0 → ⊥) → 0 < n
    pos_of_ne n h = grind arith

-- its exponent, and how many of its digits stand after the point
pub power_is : (bs : List ℕ) (a b c n : ℕ) (e : ℤ) → a ≡ 0 + length (sign_bytes (sign_at bs)) → b ≡ a + length (front (drop a bs)) → c ≡ b + length (fraction_bytes (fraction_at (drop b bs)))
    → e ≡ exponent_of (exponent_at (drop c bs)) → n ≡ length (fraction_digits (fraction_at (drop b bs))) → (written (parts bs)).power ≡ e -ℤ pos n
power_is bs a b c n e f g h x y =
    let v = x ∙ ap (λ (l : List ℕ). exponent_of (exponent_at l)) (at_exponent bs a b c f g h) in
    let w = y ∙ ap (λ (l : List ℕ). length (fraction_digits (fraction_at l))) (at_fraction bs a b f g) in
    sym (ap (λ (z : ℤ). z -ℤ pos n) v ∙ ap (λ (m : ℕ). exponent_of (parts bs).exponent -ℤ pos m) w)

-- its value
pub value_is : (bs : List ℕ) (d : Decimal) (l : Digits) (x : Bool) (p : ℤ) → SameValue (value_of d) (record { number = signed x (l.significand * 10 ^ l.zeros); power = p })
    → x ≡ is_minus (sign_at bs) → Describes (digits_of (parts bs)) l → (written (parts bs)).power ≡ p → SameValue (value_of d) (written (parts bs))
value_is bs d l x p same minus is power =
    let number : signed x (l.significand * 10 ^ l.zeros) ≡ (written (parts bs)).number = ap (λ (y : Bool). signed y (l.significand * 10 ^ l.zeros)) minus ∙ ap (signed (is_minus (sign_at bs))) (sym is.value) in
    let one = subst (λ (y : ℤ). SameValue (value_of d) (record { number = y; power = p })) number same in
    subst (λ (y : ℤ). SameValue (value_of d) (record { number = (written (parts bs)).number; power = y })) (sym power) one
