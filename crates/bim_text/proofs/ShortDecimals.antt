-- A short number is a decimal, and a whole one where nothing stands behind its point.
use Rattle.std.proofs.Common.{◌≡◌, ◌⊎◌, inl, inr, ℕ, zero, suc, ◌+◌, ◌*◌, ◌/◌, ◌%◌, ◌^◌, ◌<◌, ◌≤◌, List, Bool, false, pos, ◌+ℤ◌, ◌-ℤ◌, refl, sym, ap, subst, ◌∙◌, arith}
use Rattle.std.proofs.lemmas.Int.{ints}
use Rattle.std.proofs.lemmas.Nat.{pow-add}
use Rattle.std.proofs.Math.Nat.{div-add-mod}
use Rattle.bim_text.specs.declared.decimal.Decimal.{Decimal}
use Rattle.bim_text.specs.declared.short.Short.{Short}
use Rattle.bim_text.specs.ScaledNumbers.{Scaled, signed, whole, SameValue}
use Rattle.bim_text.specs.NumberSpellings.{written}
use Rattle.bim_text.specs.Decimals.{Reads, WritesWhole, value_of}
use Rattle.bim_text.specs.Short.{SpellsShort, short_value}
use Rattle.bim_text.proofs.Powers.{same_value, same_zero}

-- a number without the zeros after it
record Stripped (n : ℕ) : Type 0 where
  pub m : ℕ
  pub z : ℕ
  pub whole : n ≡ m * 10 ^ z
  pub some : 0 < m
  pub tail : m % 10 ≡ 0 → ⊥
  pub least : m ≤ n

zero_or : (n : ℕ) → (n ≡ 0) ⊎ (n ≡ 0 → ⊥)
zero_or zero = inl refl
zero_or (suc n) = inr (λ e. omega (arith, e))

ten_more : (m z : ℕ) → 10 * (m * 10 ^ z) ≡ m * 10 ^ (z + 1)
ten_more m z = let p : 10 ^ (z + 1) ≡ 10 ^ z * 10 = pow-add 10 z 1 in ten (10 ^ z) ∙ ap (λ (x : ℕ). m * x) (sym p)
  where
    ten : (x : ℕ) → 10 * (m * x) ≡ m * (x * 10)
    ten x = omega arith

strip : (fuel n : ℕ) → n ≤ fuel → 0 < n → Stripped n
strip zero n le some = absurd (omega (arith, le, some))
strip (suc fuel) n le some = elim (zero_or (n % 10)) [
  | inl e ↦ (let d = div-add-mod n 10 in
      let r = strip fuel (n / 10) (omega (arith, d, e, le, some)) (omega (arith, d, e, some)) in
      let small = r.least in
      let tens : n ≡ 10 * (n / 10) = omega (arith, d, e) in
      record { m = r.m; z = r.z + 1; whole = tens ∙ ap (λ (x : ℕ). 10 * x) r.whole ∙ ten_more r.m r.z; some = r.some; tail = r.tail; least = omega (arith, small, tens) })
  | inr k ↦ record { m = n; z = 0; whole = one n; some = some; tail = k; least = omega arith }
]
  where
    one : (n : ℕ) → n ≡ n * 10 ^ 0
    one n = omega arith

made : (b : Bool) (n places : ℕ) → n < 10 ^ 15 → (d : Decimal) × SameValue (value_of d) (record { number = signed b n; power = pos 0 -ℤ pos places })
made b n places small = elim (zero_or n) [
  | inl e ↦ (
    record { negative = false; digits = 0; exp = pos 0; bounded = omega arith; stripped = λ h. absurd (h refl); zero_exp = λ _. refl; zero_sign = λ _. refl },
    subst (λ (x : ℕ). SameValue (record { number = pos 0; power = pos 0 }) (record { number = signed b x; power = pos 0 -ℤ pos places })) (sym e) (same_zero b (pos 0) (pos 0 -ℤ pos places)),
  )
  | inr k ↦ (let s = strip n n (omega arith) (omega (arith, k)) in
      let some = s.some in
      let least = s.least in (
        record {
          negative = b;
          digits = s.m;
          exp = (pos 0 -ℤ pos places) +ℤ pos s.z;
          bounded = omega (arith, least, small);
          stripped = λ _. s.tail;
          zero_exp = λ e. absurd (omega (arith, e, some));
          zero_sign = λ e. absurd (omega (arith, e, some));
        },
        subst (λ (x : ℕ). SameValue (record { number = signed b s.m; power = (pos 0 -ℤ pos places) +ℤ pos s.z }) (record { number = signed b x; power = pos 0 -ℤ pos places })) (sym s.whole)
            (same_value b s.m s.z ((pos 0 -ℤ pos places) +ℤ pos s.z) (pos 0 -ℤ pos places) refl),
      ))
]

-- it is a decimal that is read
pub short_reads : (text : List ℕ) (s : Short) → s.digits < 10 ^ 15 → SpellsShort text s → (d : Decimal) × Reads text d
short_reads text s small h =
    let d = made s.negative s.digits s.places small in
    (d.0, record { spelling = h.spelling; read = h.read; value = subst (λ (x : Scaled). SameValue (value_of d.0) x) (sym h.value) d.1 })

same : (x y : Scaled) → x ≡ y → SameValue x y
same x y e = subst (λ (z : Scaled). SameValue x z) e refl

bare : (b : Bool) (n places : ℕ) → places ≡ 0 → whole (signed b n) ≡ record { number = signed b n; power = pos 0 -ℤ pos places }
bare b n places e = rw e refl

-- it is whole
pub short_whole : (text : List ℕ) (s : Short) → s.places ≡ 0 → SpellsShort text s → WritesWhole text (signed s.negative s.digits)
short_whole text s none h =
    record { spelling = h.spelling; read = h.read; value = same (whole (signed s.negative s.digits)) (written h.spelling) (bare s.negative s.digits s.places none ∙ sym h.value) }
