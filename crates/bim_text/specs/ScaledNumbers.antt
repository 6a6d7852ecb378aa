-- Values of decimals: a whole number times a power of ten, read as a fraction.
use Rattle.std.specs.Prelude.{◌≡◌, ℕ, suc, ◌*◌, ◌^◌, Bool, true, false, ℤ, pos, negsuc, neg_ℤ, ◌+ℤ◌, ◌*ℤ◌, unsigned_abs}
use Rattle.std.specs.declared.cmp.Ordering.{Ordering}
use Rattle.std.specs.Ordering.{nat_cmp}

-- a whole number times ten to a power
pub record Scaled : Type 0 where
  pub number : ℤ
  pub power : ℤ

-- a whole number as such a value
abbrev pub whole : ℤ → Scaled
whole n = record { number = n; power = pos 0 }

-- n, or its negative
abbrev pub signed : Bool → ℕ → ℤ
signed false n = pos n
signed true n = neg_ℤ (pos n)

-- how far a whole number is above zero, and how far below
abbrev pub above : ℤ → ℕ
above (pos n) = n
above (negsuc n) = 0

-- how far a whole number lies below zero
abbrev pub below : ℤ → ℕ
below (pos n) = 0
below (negsuc n) = suc n

-- the fraction that is the value: its numerator, and its denominator, which is above zero
abbrev pub numerator : Scaled → ℤ
numerator s = s.number *ℤ pos (10 ^ above s.power)

-- the power of ten by which a number is divided
abbrev pub denominator : Scaled → ℕ
denominator s = 10 ^ below s.power

-- the two are one value: their fractions are equal
abbrev pub SameValue : Scaled → Scaled → Type 0
SameValue s t = numerator s *ℤ pos (denominator t) ≡ numerator t *ℤ pos (denominator s)

-- the value times ten to a power
abbrev pub raised : Scaled → ℤ → Scaled
raised s shift = record { number = s.number; power = s.power +ℤ shift }

-- the order of the two values without their signs
abbrev pub size_order : Scaled → Scaled → Ordering
size_order s t = nat_cmp (unsigned_abs (numerator s) * denominator t)
    (unsigned_abs (numerator t) * denominator s)
