-- Bytes are read to one decimal.
use Rattle.std.proofs.Common.{◌≡◌, ◌≢◌, ℕ, zero, suc, ◌+◌, ◌*◌, ◌^◌, ◌<◌, ◌%◌, ◌/◌, ℤ, pos, negsuc, neg_ℤ, ◌*ℤ◌, ◌<ℤ◌, Bool, true, false, List, refl, sym, ap, subst, ◌∙◌, arith}
use Rattle.std.specs.Prelude.{unsigned_abs}
use Rattle.std.proofs.lemmas.Int.{ints, unsigned_abs-mul}
use Rattle.std.proofs.lemmas.Nat.{pow-add}
use Rattle.std.proofs.Math.IntN.{negsuc-*ℤ-pos}
use Rattle.std.proofs.Math.Nat.{one-le-pow, mul-mod_left, pow-suc, mul-pos, mul-div_cancel}
use Rattle.bim_text.specs.declared.decimal.Decimal.{Decimal}
use Rattle.bim_text.specs.ScaledNumbers.{Scaled, whole, signed, above, below, numerator, denominator, SameValue}
use Rattle.bim_text.specs.NumberSpellings.{Spelling, written}
use Rattle.bim_text.specs.Decimals.{Reads, WritesWhole, value_of}
use Rattle.bim_text.proofs.Parts.{parts_only}
use Rattle.bim_text.proofs.Powers.{signed_times, signed_size}

-- Sizes: digits that end in no 0, times powers of ten.

ends_in_zero : (m n k : ℕ) → m ≡ n * 10 ^ suc k → m % 10 ≡ 0
ends_in_zero m n k e = let f : m ≡ (n * 10 ^ k) * 10 = e ∙ last n k in rw f (mul-mod_left (n * 10 ^ k) 10)
  where
    turned : (n p : ℕ) → n * (p * 10) ≡ n * p * 10
    turned n p = omega arith

    last : (n k : ℕ) → n * 10 ^ suc k ≡ (n * 10 ^ k) * 10
    last n k = let p = pow-suc 10 k in rw p (turned n (10 ^ k))

by_ten : (m n : ℕ) (p q : ℕ) → m * (p * 10) ≡ n * (q * 10) → m * p ≡ n * q
by_ten m n p q e = omega (arith, e)

stripped : (m n i j : ℕ) → m % 10 ≢ 0 → n % 10 ≢ 0 → m * 10 ^ i ≡ n * 10 ^ j → (m ≡ n) × (i ≡ j)
stripped m n zero zero a b e = (omega (arith, e), refl)
stripped m n zero (suc j) a b e = absurd (a (ends_in_zero m n j (one m ∙ e)))
  where
    one : (m : ℕ) → m ≡ m * 10 ^ 0
    one m = omega arith
stripped m n (suc i) zero a b e = absurd (b (ends_in_zero n m i (one n ∙ sym e)))
  where
    one : (m : ℕ) → m ≡ m * 10 ^ 0
    one m = omega arith
stripped m n (suc i) (suc j) a b e =
    let p = pow-suc 10 i in
    let q = pow-suc 10 j in
    let less = stripped m n i j a b (by_ten m n (10 ^ i) (10 ^ j) (ap (λ (x : ℕ). m * x) (sym p) ∙ e ∙ ap (λ (x : ℕ). n * x) q)) in
    (less.0, ap suc less.1)

-- The two powers of ten in one.

joined : (m i j : ℕ) → m * 10 ^ i * 10 ^ j ≡ m * 10 ^ (i + j)
joined m i j = grouped m (10 ^ i) (10 ^ j) ∙ ap (λ (x : ℕ). m * x) (sym (pow-add 10 i j))
  where
    grouped : (m a b : ℕ) → m * a * b ≡ m * (a * b)
    grouped m a b = omega arith

one_power : (x y : ℤ) → above x + below y ≡ above y + below x → x ≡ y
one_power (pos a) (pos b) e = omega (arith, ints, e)
one_power (pos a) (negsuc b) e = absurd (omega (arith, e))
one_power (negsuc a) (pos b) e = absurd (omega (arith, e))
one_power (negsuc a) (negsuc b) e = omega (arith, ints, e)

-- The sizes of what is one value with a third.

size_of : (b : Bool) (m i j : ℕ) → unsigned_abs (signed b m *ℤ pos i *ℤ pos j) ≡ m * i * j
size_of b m i j = unsigned_abs-mul (signed b m *ℤ pos i) (pos j) ∙ ap (λ (x : ℕ). x * j) (unsigned_abs-mul (signed b m) (pos i) ∙ ap (λ (x : ℕ). x * i) (signed_size b m))

cancelled : (z a b : ℕ) → 0 < z → a * z ≡ b * z → a ≡ b
cancelled z a b some e = sym (mul-div_cancel a some) ∙ ap (λ (n : ℕ). n / z) e ∙ mul-div_cancel b some

crossed : (k l w x y z : ℕ) → 0 < z → k * z ≡ w * x → l * z ≡ w * y → k * y ≡ l * x
crossed k l w x y z some e f = cancelled z (k * y) (l * x) some (first k y z ∙ ap (λ (t : ℕ). t * y) e ∙ swapped w x y ∙ ap (λ (t : ℕ). t * x) (sym f) ∙ sym (first l x z))
  where
    first : (k y z : ℕ) → k * y * z ≡ k * z * y
    first k y z = omega arith

    swapped : (w x y : ℕ) → w * x * y ≡ w * y * x
    swapped w x y = omega arith

-- Signs: that of a number above zero is that of what it is one value with.

abbrev below_zero : ℤ → Bool
below_zero (pos n) = false
below_zero (negsuc n) = true

one_sign : (b : Bool) (m y x : ℕ) (w : ℤ) → 0 < m → 0 < y → 0 < x → signed b (m * y) ≡ w *ℤ pos x → b ≡ below_zero w
one_sign false m y x (pos n) some h k e = refl
one_sign true m y x (negsuc n) some h k e = refl
one_sign true m y x (pos n) some h k e = absurd (apart (m * y) (n * x) (mul-pos some h) e)
  where
    apart : (p q : ℕ) → 0 < p → signed true p ≡ pos q → ⊥
    apart zero q some e = omega arith
    apart (suc p) q some e = omega (arith, ints, e)
one_sign false m y x (negsuc n) some h k e = absurd (apart (m * y) (suc n * x) (mul-pos {m = suc n} (omega arith) k) (e ∙ negsuc-*ℤ-pos n x))
  where
    apart : (p q : ℕ) → 0 < q → pos p ≡ neg_ℤ (pos q) → ⊥
    apart p zero some e = omega arith
    apart p (suc q) some e = omega (arith, ints, e)

-- One form.

record IsForm (b : Bool) (m : ℕ) (x : ℤ) : Type 0 where
  stripped : m ≢ 0 → m % 10 ≢ 0
  zero_exp : m ≡ 0 → x ≡ pos 0
  zero_sign : m ≡ 0 → b ≡ false

abbrev value : Bool → ℕ → ℤ → Scaled
value b m x = record { number = signed b m; power = x }

sizes : (b : Bool) (m : ℕ) (x : ℤ) (w : Scaled) → SameValue (value b m x) w → m * 10 ^ above x * denominator w ≡ unsigned_abs (numerator w) * 10 ^ below x
sizes b m x w h = sym (size_of b m (10 ^ above x) (denominator w)) ∙ ap unsigned_abs h ∙ unsigned_abs-mul (numerator w) (pos (10 ^ below x))

one_size : (b c : Bool) (m n : ℕ) (x y : ℤ) (w : Scaled) → SameValue (value b m x) w → SameValue (value c n y) w → m * 10 ^ (above x + below y) ≡ n * 10 ^ (above y + below x)
one_size b c m n x y w h k =
    sym (joined m (above x) (below y)) ∙ crossed (m * 10 ^ above x) (n * 10 ^ above y) (unsigned_abs (numerator w)) (10 ^ below x) (10 ^ below y) (denominator w) (one-le-pow (below w.power) 10 (omega arith)) (sizes b m x w h) (sizes c n y w k)
    ∙ joined n (above y) (below x)

signs : (b : Bool) (m : ℕ) (x : ℤ) (w : Scaled) → 0 < m → SameValue (value b m x) w → b ≡ below_zero (numerator w)
signs b m x w some h =
    one_sign b (m * 10 ^ above x) (denominator w) (10 ^ below x) (numerator w) (mul-pos some (one-le-pow (above x) 10 (omega arith))) (one-le-pow (below w.power) 10 (omega arith)) (one-le-pow (below x) 10 (omega arith))
    (sym (ap (λ (z : ℤ). z *ℤ pos (denominator w)) (signed_times b m (10 ^ above x)) ∙ signed_times b (m * 10 ^ above x) (denominator w)) ∙ h)

none_either : (m n i j : ℕ) → m ≡ 0 → m * 10 ^ i ≡ n * 10 ^ j → n ≡ 0
none_either m zero i j z e = refl
none_either m (suc n) i j z e = absurd (let some = mul-pos {m = suc n} (omega arith) (one-le-pow j 10 (omega arith)) in apart m (10 ^ i) (suc n * 10 ^ j) z e some)
  where
    apart : (m p q : ℕ) → m ≡ 0 → m * p ≡ q → 0 < q → ⊥
    apart zero p q z e some = omega (arith, e, some)
    apart (suc m) p q z e some = omega (arith, z)

one_form : (b c : Bool) (m n : ℕ) (x y : ℤ) (w : Scaled) → IsForm b m x → IsForm c n y → SameValue (value b m x) w → SameValue (value c n y) w → (b ≡ c) × (m ≡ n) × (x ≡ y)
one_form b c zero n x y w f g h k =
    let z = none_either zero n (above x + below y) (above y + below x) refl (one_size b c zero n x y w h k) in
    (f.zero_sign refl ∙ sym (g.zero_sign z), sym z, f.zero_exp refl ∙ sym (g.zero_exp z))
one_form b c (suc m) zero x y w f g h k = absurd (let z = none_either zero (suc m) (above y + below x) (above x + below y) refl (sym (one_size b c (suc m) zero x y w h k)) in omega (arith, z))
one_form b c (suc m) (suc n) x y w f g h k =
    let both = stripped (suc m) (suc n) (above x + below y) (above y + below x) (f.stripped (λ z. omega (arith, z))) (g.stripped (λ z. omega (arith, z))) (one_size b c (suc m) (suc n) x y w h k) in
    (signs b (suc m) x w (omega arith) h ∙ sym (signs c (suc n) y w (omega arith) k), both.0, one_power x y both.1)

form_of : (d : Decimal) → IsForm d.negative d.digits d.exp
form_of d = record { stripped = d.stripped; zero_exp = d.zero_exp; zero_sign = d.zero_sign }

pub one_decimal : (text : List ℕ) (d e : Decimal) → Reads text d → Reads text e → (d.negative ≡ e.negative) × (d.digits ≡ e.digits) × (d.exp ≡ e.exp)
one_decimal text d e r q =
    let same = sym (parts_only q.spelling text q.read.number) ∙ parts_only r.spelling text r.read.number in
    one_form d.negative e.negative d.digits e.digits d.exp e.exp (written r.spelling) (form_of d) (form_of e) r.value
    (subst (λ (s : Spelling). SameValue (value_of e) (written s)) same q.value)

-- A decimal that ends after the point isn't whole.

power_above : (b c : Bool) (m n : ℕ) (x : ℤ) (w : Scaled) → IsForm b m x → SameValue (value b m x) w → SameValue (value c n (pos 0)) w → x <ℤ pos 0 → ⊥
power_above b c m n (pos i) w f h k below = omega (arith, ints, below)
power_above b c zero n (negsuc i) w f h k below = let z = f.zero_exp refl in omega (arith, ints, z)
power_above b c (suc m) n (negsuc i) w f h k below =
    f.stripped (λ z. omega (arith, z)) (ends_in_zero (suc m) n i (one (suc m) ∙ one_size b c (suc m) n (negsuc i) (pos 0) w h k ∙ ap (λ (j : ℕ). n * 10 ^ j) (plain i)))
  where
    one : (m : ℕ) → m ≡ m * 10 ^ (0 + 0)
    one m = omega arith

    plain : (i : ℕ) → 0 + suc i ≡ suc i
    plain i = omega arith

pub not_whole : (text : List ℕ) (d : Decimal) (n : ℤ) → Reads text d → WritesWhole text n → d.exp <ℤ pos 0 → ⊥
not_whole text d (pos n) r w below =
    let same = sym (parts_only w.spelling text w.read.number) ∙ parts_only r.spelling text r.read.number in
    power_above d.negative false d.digits n d.exp (written r.spelling) (form_of d) r.value (subst (λ (s : Spelling). SameValue (whole (pos n)) (written s)) same w.value) below
not_whole text d (negsuc n) r w below =
    let same = sym (parts_only w.spelling text w.read.number) ∙ parts_only r.spelling text r.read.number in
    power_above d.negative true d.digits (suc n) d.exp (written r.spelling) (form_of d) r.value (subst (λ (s : Spelling). SameValue (whole (negsuc n)) (written s)) same w.value) below
