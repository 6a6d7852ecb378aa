-- Coordinates in 32 bits
use Rattle.std.proofs.Common.{◌≡◌, ◌≤◌, ℤ, ◌≤ℤ◌, to_z, of_z, w32, arith, subst, sym}
use Rattle.std.specs.Prelude.{unsigned_abs}
use Rattle.std.proofs.lemmas.Int.{to_z-of_z, fits_signed_from_abs}

-- a number as a register of 32 bits gives it back
abbrev pub in_32 : ℤ → ℤ
in_32 a = to_z w32 (of_z w32 a)

pub same_32 : (a : ℤ) → unsigned_abs a ≤ 8000000 → in_32 a ≡ a
same_32 a h = to_z-of_z w32 a (fits_signed_from_abs w32 a (omega arith))

-- a bound of a coordinate, both of them in registers
pub low_32 : (r a : ℤ) → unsigned_abs r ≤ 8000000 → unsigned_abs a ≤ 8000000 → r ≤ℤ in_32 a → in_32 r ≤ℤ a
low_32 r a h k l = subst (λ (x : ℤ). x ≤ℤ a) (sym (same_32 r h)) (subst (λ (x : ℤ). r ≤ℤ x) (same_32 a k) l)

pub high_32 : (r a : ℤ) → unsigned_abs r ≤ 8000000 → unsigned_abs a ≤ 8000000 → in_32 a ≤ℤ r → a ≤ℤ in_32 r
high_32 r a h k l = subst (λ (x : ℤ). a ≤ℤ x) (sym (same_32 r h)) (subst (λ (x : ℤ). x ≤ℤ r) (same_32 a k) l)
