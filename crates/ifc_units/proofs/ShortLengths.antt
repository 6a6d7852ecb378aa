-- A short number's length: the decimal that it is has its size in millimetres, also where zeros stand after its digits.
use Rattle.std.proofs.Common.{◌≡◌, ◌⊎◌, inl, inr, ℕ, zero, suc, ◌+◌, ◌-◌, ◌*◌, ◌/◌, ◌%◌, ◌^◌, ◌<◌, ◌≤◌, List, Bool, false, true, ℤ, pos, ◌+ℤ◌, ◌-ℤ◌, ◌*ℤ◌, refl, sym, ap, subst, ◌∙◌, arith}
use Rattle.std.specs.Prelude.{unsigned_abs}
use Rattle.std.proofs.lemmas.Int.{ints}
use Rattle.std.proofs.lemmas.Nat.{pow-add}
use Rattle.std.proofs.Math.Nat.{div-add-mod, mul-sub, mul-lt-mul_of_pos_right, lt_of_mul-lt-mul_right, le_of_mul-le-mul_right, eq_of_mul-eq-mul_right}
use Rattle.bim_model.specs.declared.upload.Mode.{Mode}
use Rattle.bim_model.specs.declared.upload.Mode.TheVariants.{Exact, Snap}
use Rattle.bim_text.specs.declared.decimal.Decimal.{Decimal}
use Rattle.bim_text.specs.declared.short.Short.{Short}
use Rattle.bim_text.specs.ScaledNumbers.{Scaled, signed, above, below, SameValue}
use Rattle.bim_text.specs.Decimals.{Reads, value_of}
use Rattle.bim_text.specs.Short.{SpellsShort}
use Rattle.bim_text.proofs.Powers.{same_value, same_zero, powers, signed_size}
use Rattle.bim_text.proofs.Quotients.{power_some, times}
use Rattle.p21_values.specs.declared.value.Value21.{Value21}
use Rattle.p21_table.specs.ShortRows.{SaysShort}
use Rattle.ifc_units.specs.declared.scale.Scale.{Scale}
use Rattle.ifc_units.specs.declared.sizes.TheConstants.{UNITS, MOST}
use Rattle.ifc_units.specs.declared.length_error.GridFault.{GridFault}
use Rattle.ifc_units.specs.declared.length_error.GridFault.TheVariants.{OffGrid, TooFar}
use Rattle.ifc_units.specs.Grid.{IsGridNumber}
use Rattle.ifc_units.specs.inner.RoundedLengths.{distance, IsSize, IsSizeOf}
use Rattle.ifc_units.specs.Lengths.{IsLength, LengthRefused}
use Rattle.ifc_units.proofs.Signs.{times_left, grid_ok, grid_off, grid_far}
use Rattle.ifc_units.proofs.LengthFacts.{length_here, length_refused}

-- One fraction in two forms, n / d and k / e, has the same sizes.

turned : (a b : ℕ) → a * b ≡ b * a
turned a b = omega arith

spread : (a b c : ℕ) → (a - b) * c ≡ a * c - b * c
spread a b c = turned (a - b) c ∙ mul-sub c a b ∙ ap (λ (x : ℕ). x - c * b) (turned c a) ∙ ap (λ (x : ℕ). a * c - x) (turned c b)

distance_times : (a b c : ℕ) → distance a b * c ≡ distance (a * c) (b * c)
distance_times a b c = parts (a - b) (b - a) c ∙ ap (λ (x : ℕ). x + (b - a) * c) (spread a b c) ∙ ap (λ (x : ℕ). (a * c - b * c) + x) (spread b a c)
  where
    parts : (x y c : ℕ) → (x + y) * c ≡ x * c + y * c
    parts x y c = omega arith

swapped : (g d e : ℕ) → g * d * e ≡ g * e * d
swapped g d e = omega arith

distances : (n d k e g : ℕ) → n * e ≡ k * d → distance n (g * d) * e ≡ distance k (g * e) * d
distances n d k e g h =
    distance_times n (g * d) e ∙ ap (λ (x : ℕ). distance x (g * d * e)) h ∙ ap (λ (x : ℕ). distance (k * d) x) (swapped g d e) ∙ sym (distance_times k (g * e) d)

close_too : (u x d y e : ℕ) → 0 < d → 0 < e → x * e ≡ y * d → 1000 * x < u * d → 1000 * y < u * e
close_too u x d y e some more h lt =
    lt_of_mul-lt-mul_right d {m = 1000 * y} {n = u * e} (let k = mul-lt-mul_of_pos_right {m = 1000 * x} {n = u * d} {k = e} lt more in moved k)
  where
    moved : 1000 * x * e < u * d * e → 1000 * y * d < u * e * d
    moved k = omega (arith, k, h, swapped u d e)

near_too : (x d y e : ℕ) → 0 < d → x * e ≡ y * d → 2 * x ≤ d → 2 * y ≤ e
near_too x d y e some h le =
    le_of_mul-le-mul_right {m = 2 * y} {n = e} {k = d} (let k = times e (2 * x) d le in moved k) some
  where
    moved : 2 * x * e ≤ d * e → 2 * y * d ≤ e * d
    moved k = omega (arith, k, h)

half_too : (x d y e : ℕ) → 0 < e → x * e ≡ y * d → 2 * y ≡ e → 2 * x ≡ d
half_too x d y e some h half = eq_of_mul-eq-mul_right e some (2 * x) d (moved (ap (λ (t : ℕ). t * d) half))
  where
    moved : 2 * y * d ≡ e * d → 2 * x * e ≡ d * e
    moved k = omega (arith, k, h)

less_too : (n d k e g : ℕ) → 0 < d → 0 < e → n * e ≡ k * d → n < g * d → k < g * e
less_too n d k e g some more h lt =
    lt_of_mul-lt-mul_right d {m = k} {n = g * e} (let l = mul-lt-mul_of_pos_right {m = n} {n = g * d} {k = e} lt more in moved l)
  where
    moved : n * e < g * d * e → k * d < g * e * d
    moved l = omega (arith, l, h, swapped g d e)

size_too : (mode : Mode) (u n d k e g : ℕ) → 0 < d → 0 < e → n * e ≡ k * d → IsSize mode u n d g → IsSize mode u k e g
size_too Exact u n d k e g some more h is = close_too u (distance n (g * d)) d (distance k (g * e)) e some more (distances n d k e g h) is
size_too Snap u n d k e g some more h is =
    let far = distances n d k e g h in
    record {
      near = near_too (distance n (g * d)) d (distance k (g * e)) e some far is.near;
      away = λ half. less_too n d k e g some more h (is.away (half_too (distance n (g * d)) d (distance k (g * e)) e more far half));
    }

units_times : (u m a b n c d : ℕ) → m * a * b ≡ n * c * d → u * (m * a) * b ≡ u * (n * c) * d
units_times u m a b n c d h = grouped u (m * a) b ∙ ap (λ (x : ℕ). u * x) h ∙ sym (grouped u (n * c) d)
  where
    grouped : (u x y : ℕ) → u * x * y ≡ u * (x * y)
    grouped u x y = omega arith

-- digits and a power of ten that are the same number
abbrev IsSame : ℕ → ℤ → ℕ → ℤ → Type 0
IsSame m p n q = m * 10 ^ above p * 10 ^ below q ≡ n * 10 ^ above q * 10 ^ below p

sizes_too : (mode : Mode) (m n g : ℕ) (p q : ℤ) → IsSame m p n q → IsSizeOf mode p m g → IsSizeOf mode q n g
unfolding IsSizeOf
sizes_too mode m n g p q h is =
    size_too mode UNITS (UNITS * (m * 10 ^ above p)) (10 ^ below p) (UNITS * (n * 10 ^ above q)) (10 ^ below q) g (power_some (below p)) (power_some (below q)) (units_times UNITS m (10 ^ above p) (10 ^ below q) n (10 ^ above q) (10 ^ below p) h) is

-- The decimal that a short number is.

-- digits without the zeros after them
record Stripped (n : ℕ) : Type 0 where
  pub m : ℕ
  pub z : ℕ
  pub whole : n ≡ m * 10 ^ z
  pub some : 0 < m
  pub tail : m % 10 ≡ 0 → ⊥
  pub least : m ≤ n

zero_or : (n : ℕ) → (n ≡ 0) ⊎ (n ≡ 0 → ⊥)
zero_or zero = inl refl
zero_or (suc n) = inr (λ e. omega (arith, e))

ten_more : (m z : ℕ) → 10 * (m * 10 ^ z) ≡ m * 10 ^ (z + 1)
ten_more m z = let p : 10 ^ (z + 1) ≡ 10 ^ z * 10 = pow-add 10 z 1 in ten (10 ^ z) ∙ ap (λ (x : ℕ). m * x) (sym p)
  where
    ten : (x : ℕ) → 10 * (m * x) ≡ m * (x * 10)
    ten x = omega arith

strip : (fuel n : ℕ) → n ≤ fuel → 0 < n → Stripped n
strip zero n le some = absurd (omega (arith, le, some))
strip (suc fuel) n le some = elim (zero_or (n % 10)) [
  | inl e ↦ (let d = div-add-mod n 10 in
      let r = strip fuel (n / 10) (omega (arith, d, e, le, some)) (omega (arith, d, e, some)) in
      let small = r.least in
      let tens : n ≡ 10 * (n / 10) = omega (arith, d, e) in
      record { m = r.m; z = r.z + 1; whole = tens ∙ ap (λ (x : ℕ). 10 * x) r.whole ∙ ten_more r.m r.z; some = r.some; tail = r.tail; least = omega (arith, small, tens) })
  | inr k ↦ record { m = n; z = 0; whole = one n; some = some; tail = k; least = omega arith }
]
  where
    one : (n : ℕ) → n ≡ n * 10 ^ 0
    one n = omega arith

-- a decimal is the number of those digits, and it is so in each unit
record IsFor (b : Bool) (n places : ℕ) (shift : ℤ) (d : Decimal) : Type 0 where
  pub value : SameValue (value_of d) (record { number = signed b n; power = pos 0 -ℤ pos places })
  pub sign : signed b d.digits ≡ signed d.negative d.digits
  pub scaled : IsSame n (shift -ℤ pos places) d.digits (d.exp +ℤ shift)

no_sign : (b : Bool) → signed b 0 ≡ pos 0
no_sign false = refl
no_sign true = refl

no_size : (a c : ℕ) (n : ℕ) → n ≡ 0 → n * a * c ≡ 0
no_size a c n e = rw e (omega arith)

zero_for : (b : Bool) (n places : ℕ) (shift : ℤ) → n ≡ 0 → (d : Decimal) × IsFor b n places shift d
zero_for b n places shift e = (
  record { negative = false; digits = 0; exp = pos 0; bounded = omega arith; stripped = λ h. absurd (h refl); zero_exp = λ _. refl; zero_sign = λ _. refl },
  record {
    value = subst (λ (x : ℕ). SameValue (record { number = pos 0; power = pos 0 }) (record { number = signed b x; power = pos 0 -ℤ pos places })) (sym e) (same_zero b (pos 0) (pos 0 -ℤ pos places));
    sign = no_sign b;
    scaled = no_size (10 ^ above (shift -ℤ pos places)) (10 ^ below (pos 0 +ℤ shift)) n e ∙ sym (no_size (10 ^ above (pos 0 +ℤ shift)) (10 ^ below (shift -ℤ pos places)) 0 refl);
  },
)

regrouped : (m a b c : ℕ) → m * a * b * c ≡ m * (a * (b * c))
regrouped m a b c = omega arith

paired : (m a b : ℕ) → m * a * b ≡ m * (a * b)
paired m a b = omega arith

same_scaled : (m z n : ℕ) (p q : ℤ) → n ≡ m * 10 ^ z → p ≡ q +ℤ pos z → IsSame n q m p
same_scaled m z n p q e f =
    ap (λ (x : ℕ). x * 10 ^ above q * 10 ^ below p) e ∙ regrouped m (10 ^ z) (10 ^ above q) (10 ^ below p) ∙ ap (λ (x : ℕ). m * x) (sym (powers p q z f)) ∙ sym (paired m (10 ^ above p) (10 ^ below q))

some_for : (b : Bool) (n places : ℕ) (shift : ℤ) → n < 10 ^ 15 → (n ≡ 0 → ⊥) → (d : Decimal) × IsFor b n places shift d
some_for b n places shift small k =
    let s = strip n n (omega arith) (omega (arith, k)) in
    let some = s.some in
    let least = s.least in (
      record {
        negative = b;
        digits = s.m;
        exp = (pos 0 -ℤ pos places) +ℤ pos s.z;
        bounded = omega (arith, least, small);
        stripped = λ _. s.tail;
        zero_exp = λ e. absurd (omega (arith, e, some));
        zero_sign = λ e. absurd (omega (arith, e, some));
      },
      record {
        value = subst (λ (x : ℕ). SameValue (record { number = signed b s.m; power = (pos 0 -ℤ pos places) +ℤ pos s.z }) (record { number = signed b x; power = pos 0 -ℤ pos places })) (sym s.whole)
            (same_value b s.m s.z ((pos 0 -ℤ pos places) +ℤ pos s.z) (pos 0 -ℤ pos places) refl);
        sign = refl;
        scaled = same_scaled s.m s.z n ((pos 0 -ℤ pos places) +ℤ pos s.z +ℤ shift) (shift -ℤ pos places) s.whole (omega (arith, ints));
      },
    )

decimal_for : (s : Short) (shift : ℤ) → s.digits < 10 ^ 15 → (d : Decimal) × IsFor s.negative s.digits s.places shift d
decimal_for s shift small = elim (zero_or s.digits) [
  | inl e ↦ zero_for s.negative s.digits s.places shift e
  | inr k ↦ some_for s.negative s.digits s.places shift small k
]

reads_for : (text : List ℕ) (s : Short) (shift : ℤ) (d : Decimal) → SpellsShort text s → IsFor s.negative s.digits s.places shift d → Reads text d
reads_for text s shift d h is = record { spelling = h.spelling; read = h.read; value = subst (λ (x : Scaled). SameValue (value_of d) x) (sym h.value) is.value }

-- so many times the digits
same_times : (f m n : ℕ) (p q : ℤ) → IsSame m p n q → IsSame (f * m) p (f * n) q
same_times f m n p q h = grouped f m (10 ^ above p) (10 ^ below q) ∙ ap (λ (x : ℕ). f * x) h ∙ sym (grouped f n (10 ^ above q) (10 ^ below p))
  where
    grouped : (f m a b : ℕ) → f * m * a * b ≡ f * (m * a * b)
    grouped f m a b = omega arith

-- a number so many times, with the sign of that decimal
signed_for : (f : ℕ) (b : Bool) (d : Decimal) → signed b d.digits ≡ signed d.negative d.digits → signed b (f * d.digits) ≡ pos f *ℤ signed d.negative d.digits
signed_for f b d e = sym (times_left f b d.digits) ∙ ap (λ (x : ℤ). pos f *ℤ x) e

-- What its size on the grid says of a value.

pub short_here : (scale : Scale) (mode : Mode) (s : Short) (v : Value21) (size : ℕ) (p g : ℤ) → SaysShort s v → p ≡ scale.power -ℤ pos s.places → IsSizeOf mode p (scale.factor * s.digits) size → size ≤ MOST → g ≡ signed s.negative size
    → IsLength scale mode v g
short_here scale mode s v size p g says at is within e =
    let f = decimal_for s scale.power says.digits in
    let d = f.0 in
    let k = scale.factor in
    let q = d.exp +ℤ scale.power in
    let same : IsSame s.digits p d.digits q = subst (λ (x : ℤ). IsSame s.digits x d.digits q) (sym at) f.1.scaled in
    let sized = sizes_too mode (k * s.digits) (k * d.digits) size p q (same_times k s.digits d.digits p q same) is in
    length_here scale mode v says.spelled d g g says.number (reads_for says.spelled s scale.power d says.spells f.1)
    (subst (λ (x : ℤ). IsGridNumber mode UNITS (record { number = x; power = q }) g) (signed_for k s.negative d f.1.sign) (grid_ok mode s.negative (k * d.digits) size q g sized e))
    (omega (arith, ap unsigned_abs e, signed_size s.negative size, within)) refl

pub short_refused : (scale : Scale) (mode : Mode) (s : Short) (v : Value21) (fault : GridFault) (q : ℤ) → SaysShort s v → q ≡ scale.power -ℤ pos s.places → (fault ≡ OffGrid → mode ≡ Exact)
    → (fault ≡ OffGrid → (n : ℕ) → IsSizeOf mode q (scale.factor * s.digits) n → ⊥) → (fault ≡ TooFar → (n : ℕ) × IsSizeOf mode q (scale.factor * s.digits) n × (MOST < n)) → LengthRefused scale mode v fault
short_refused scale mode s v fault q says at exact off far =
    let f = decimal_for s scale.power says.digits in
    let d = f.0 in
    let k = scale.factor in
    let p = d.exp +ℤ scale.power in
    let same : IsSame s.digits q d.digits p = subst (λ (x : ℤ). IsSame s.digits x d.digits p) (sym at) f.1.scaled in
    let scaled : IsSame (k * s.digits) q (k * d.digits) p = same_times k s.digits d.digits q p same in
    let sign = signed_for k s.negative d f.1.sign in
    length_refused scale mode v says.spelled d fault says.number (reads_for says.spelled s scale.power d says.spells f.1)
    (λ e. subst (λ (x : ℤ). (g : ℤ) → IsGridNumber mode UNITS (record { number = x; power = p }) g → ⊥) sign
    (grid_off mode s.negative (k * d.digits) p (exact e) (λ n h. off e n (sizes_too mode (k * d.digits) (k * s.digits) n p q (sym scaled) h))))
    (λ e. let is = far e in subst (λ (x : ℤ). (g : ℤ) × IsGridNumber mode UNITS (record { number = x; power = p }) g × (MOST < unsigned_abs g)) sign
    (grid_far mode s.negative (k * d.digits) p (is.0, sizes_too mode (k * s.digits) (k * d.digits) is.0 q p scaled is.1, is.2)))
