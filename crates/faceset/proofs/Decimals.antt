-- Decimals that are no whole numbers below a hundred million.
use Rattle.std.proofs.Common.{◌≡◌, ◌≢◌, ℕ, zero, suc, ◌-◌, ◌*◌, ◌^◌, [], ◌<◌, ◌≤◌, ◌%◌, ℤ, pos, negsuc, ◌<ℤ◌, ◌≤ℤ◌, Bool, true, false, List, Option, Some, None, refl, sym, ap, subst, ◌∙◌, arith}
use Rattle.std.proofs.lemmas.Int.{ints}
use Rattle.bim_text.specs.declared.decimal.Decimal.{Decimal}
use Rattle.bim_text.specs.ScaledNumbers.{whole, signed, SameValue}
use Rattle.std.specs.Option.{IfSome, IfNone, unwrap_or}
use Rattle.bim_text.specs.NumberSpellings.{written}
use Rattle.bim_text.specs.Decimals.{value_of, Reads, WritesWhole}
use Rattle.bim_text.proofs.Parts.{parts_only}
use Rattle.p21_values.specs.declared.value.Value21.{Value21}
use Rattle.p21_values.specs.Values.{number_of}
use Rattle.faceset.specs.Indexes.{PointsNowhere}
use Rattle.faceset.proofs.Values.{none_negative, none_fraction, many_digits, high_power, whole_product, same_trans}

pub by_sign : (b : Bool) (m n : ℕ) (e : ℤ) → b ≡ true → (m ≡ 0 → b ≡ false) → SameValue (record { number = signed b m; power = e }) (whole (pos n)) → ⊥
by_sign true zero n e is zero_sign h = absurd (grind (arith, zero_sign))
by_sign true (suc m) n e is zero_sign h = none_negative (suc m) n e (omega arith) h
by_sign false m n e is zero_sign h = absurd (grind (arith, is))

pub by_fraction : (b : Bool) (m n : ℕ) (e : ℤ) → b ≡ false → e <ℤ pos 0 → (m ≢ 0 → m % 10 ≢ 0) → (m ≡ 0 → e ≡ pos 0) → SameValue (record { number = signed b m; power = e }) (whole (pos n)) → ⊥
by_fraction true m n e is below stripped zero_exp h = absurd (grind (arith, is))
by_fraction false m n (pos k) is below stripped zero_exp h = absurd (omega (arith, ints, below))
by_fraction false zero n (negsuc k) is below stripped zero_exp h = absurd (let z = zero_exp refl in omega (arith, ints, z))
by_fraction false (suc m) n (negsuc k) is below stripped zero_exp h = stripped (λ z. omega (arith, z)) (none_fraction (suc m) n k h)

pub by_power : (b : Bool) (m n : ℕ) (e : ℤ) → b ≡ false → pos 18 <ℤ e → (m ≡ 0 → e ≡ pos 0) → n < 10 ^ 19 → SameValue (record { number = signed b m; power = e }) (whole (pos n)) → ⊥
by_power true m n e is high zero_exp low h = absurd (grind (arith, is))
by_power false m n (negsuc k) is high zero_exp low h = absurd (omega (arith, ints, high))
by_power false zero n (pos k) is high zero_exp low h = absurd (let z = zero_exp refl in omega (arith, ints, z, high))
by_power false (suc m) n (pos k) is high zero_exp low h = let l = high_power (suc m) n k (omega arith) (omega (arith, ints, high)) h in omega arith

pub by_digits : (b : Bool) (m n : ℕ) (e : ℤ) → b ≡ false → pos 0 ≤ℤ e → 10 ^ 19 ≤ m → n < 10 ^ 19 → SameValue (record { number = signed b m; power = e }) (whole (pos n)) → ⊥
by_digits true m n e is some many low h = absurd (grind (arith, is))
by_digits false m n (negsuc k) is some many low h = absurd (omega (arith, ints, some))
by_digits false m n (pos k) is some many low h = let l = many_digits m n k many h in omega arith

-- bytes that one decimal reads write its value alone
pub writes_value : (bytes : List ℕ) (d : Decimal) (n : ℤ) → Reads bytes d → WritesWhole bytes n → SameValue (value_of d) (whole n)
writes_value bytes d n reads writes =
    let one = parts_only reads.spelling bytes reads.read.number in
    let two = parts_only writes.spelling bytes writes.read.number in
    let same : written reads.spelling ≡ written writes.spelling = ap written (sym one ∙ two) in
    same_trans (value_of d) (written writes.spelling) (whole n) (subst (SameValue (value_of d)) same reads.value) (sym writes.value)

pub some_writes : (bytes : List ℕ) (d : Decimal) (r : Option ℕ) → Reads bytes d → IfSome r (λ n. SameValue (value_of d) (whole (pos n))) → IfSome r (λ n. WritesWhole bytes (pos n))
some_writes bytes d None reads h = h
some_writes bytes d (Some n) reads h = record {
  spelling = reads.spelling;
  read = reads.read;
  value = same_trans (whole (pos n)) (value_of d) (written reads.spelling) (sym h) reads.value;
}

pub none_writes : (bytes : List ℕ) (d : Decimal) (r : Option ℕ) → Reads bytes d → IfNone r ((n : ℕ) → n < 10 ^ 19 → SameValue (value_of d) (whole (pos n)) → ⊥)
    → IfNone r ((n : ℕ) → n < 10 ^ 19 → WritesWhole bytes (pos n) → ⊥)
none_writes bytes d None reads h = λ n low w. h n low (writes_value bytes d (pos n) reads w)
none_writes bytes d (Some n) reads h = h

-- bytes write one number
pub one_number : (bytes : List ℕ) (m n : ℕ) → WritesWhole bytes (pos m) → WritesWhole bytes (pos n) → m ≡ n
one_number bytes m n w v =
    let one = parts_only w.spelling bytes w.read.number in
    let two = parts_only v.spelling bytes v.read.number in
    let spelled : written w.spelling ≡ written v.spelling = ap written (sym one ∙ two) in
    let same : SameValue (whole (pos m)) (whole (pos n)) = same_trans (whole (pos m)) (written v.spelling) (whole (pos n)) (subst (SameValue (whole (pos m))) spelled w.value) (sym v.value) in
    plain m n (whole_product m n 0 same)
  where
    plain : (m n : ℕ) → n ≡ m * 10 ^ 0 → m ≡ n
    plain m n e = omega (arith, e)

pub after_none : (bytes : List ℕ) (count : ℕ) → count < 2 ^ 63 → ((n : ℕ) → n < 10 ^ 19 → WritesWhole bytes (pos n) → ⊥) → (k : ℕ) → k < count → WritesWhole bytes (pos (suc k)) → ⊥
after_none bytes count few none k lt w = none (suc k) (omega arith) w

pub after_zero : (bytes : List ℕ) (count : ℕ) → WritesWhole bytes (pos 0) → (k : ℕ) → k < count → WritesWhole bytes (pos (suc k)) → ⊥
after_zero bytes count w k lt v = let e = one_number bytes 0 (suc k) w v in absurd (omega (arith, e))

pub after_many : (bytes : List ℕ) (count index : ℕ) → count < index → WritesWhole bytes (pos index) → (k : ℕ) → k < count → WritesWhole bytes (pos (suc k)) → ⊥
after_many bytes count index many w k lt v = let e = one_number bytes index (suc k) w v in absurd (omega (arith, e))

pub one_less : (bytes : List ℕ) (index : ℕ) → 0 < index → WritesWhole bytes (pos index) → WritesWhole bytes (pos (suc (index - 1)))
one_less bytes index some w = let e : index ≡ suc (index - 1) = omega arith in subst (λ (n : ℕ). WritesWhole bytes (pos n)) e w

pub none_in_value : (v : Value21) (bytes : List ℕ) (count : ℕ) (r : Option ℕ) → number_of v ≡ Some bytes
    → IfNone r ((k : ℕ) → k < count → WritesWhole bytes (pos (suc k)) → ⊥) → IfNone r (PointsNowhere count v)
none_in_value v bytes count (Some k) is h = h
none_in_value v bytes count None is h = λ k p. h k p.within (subst (λ (bs : List ℕ). WritesWhole bs (pos (suc k))) (same (sym p.number ∙ is)) p.written)
  where
    same : {a b : List ℕ} → Some a ≡ Some b → a ≡ b
    same e = ap (λ o. unwrap_or o []) e
