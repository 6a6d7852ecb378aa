-- Heights as registers of 128 bits give them back, and what tests of them say
use Rattle.std.proofs.Common.{◌≡◌, ◌≤◌, ◌↔◌, Bool, IsTrue, true, false, arith, ℕ, ℤ, pos, ◌≤ℤ◌, ◌<ℤ◌, refl, subst}
use Rattle.std.specs.Prelude.{unsigned_abs}
use Rattle.std.proofs.lemmas.Int.{ints}
use lib.Signed.{lt_z}
use Rattle.exact_arith.proofs.Ranges.{Kept, value_kept, kept_128, in_128, zero_kept, less, not_less}

pub kept : (s : ℤ) → unsigned_abs s ≤ 24576000000000000000000 → Kept (in_128 s) s 24576000000000000000000
kept s h = kept_128 (value_kept s h) tt

-- a fact of a height as the callee saw it
pub seen : (P : ℤ → Type 0) (s : ℤ) → unsigned_abs s ≤ 24576000000000000000000 → P (in_128 s) → P s
seen P s h p = subst P (kept s h).same p

unless : (t : Bool) → (t ≡ false → ⊥) → t ≡ true
unless true f = refl
unless false f = absurd (f refl)

pub clash : (x y : ℤ) → x <ℤ y → y ≤ℤ x → ⊥
clash x y h k = omega (arith, ints, h, k)

pub above_test : {e v : ℤ} {m : ℕ} → Kept e v m → IsTrue (lt_z (pos 0) e) ↔ (pos 0 <ℤ v)
above_test {e} {v} k = (λ h. less zero_kept k h, λ h. unless (lt_z (pos 0) e) (λ f. clash (pos 0) v h (not_less zero_kept k f)))

pub below_test : {e v : ℤ} {m : ℕ} → Kept e v m → IsTrue (lt_z e (pos 0)) ↔ (v <ℤ pos 0)
below_test {e} {v} k = (λ h. less k zero_kept h, λ h. unless (lt_z e (pos 0)) (λ f. clash v (pos 0) h (not_less k zero_kept f)))
