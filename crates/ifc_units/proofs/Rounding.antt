-- Sizes on the grid.
use Rattle.std.proofs.Common.{◌≡◌, ℕ, ◌+◌, ◌-◌, ◌*◌, ◌/◌, ◌%◌, ◌^◌, ◌<◌, ◌≤◌, ◌⊎◌, inl, inr, ap, ◌∙◌, arith}
use Rattle.std.proofs.lemmas.Nat.{div-add-mod', pow-add}
use Rattle.std.proofs.Math.Nat.{mul-le-mul_left, pow-le-pow_right}
use Rattle.bim_model.specs.declared.upload.Mode.TheVariants.{Exact, Snap}
use Rattle.bim_text.proofs.Quotients.{times, power_some}
use Rattle.ifc_units.specs.declared.sizes.TheConstants.{UNITS, MOST, MOST_COUNT}
use Rattle.ifc_units.specs.inner.RoundedLengths.{distance, IsSize}

-- at the size below and at the one above
at_whole : (n d : ℕ) → distance n (n / d * d) ≡ n % d
at_whole n d = omega (arith, div-add-mod' n d)

at_next : (n d : ℕ) → 0 < d → distance n ((n / d + 1) * d) ≡ d - n % d
at_next n d h = omega (arith, div-add-mod' n d)

-- at the sizes further off
from_below : (n d g : ℕ) → g ≤ n / d → n % d ≤ distance n (g * d)
from_below n d g h = omega (arith, div-add-mod' n d, times d g (n / d) h)

from_above : (n d g : ℕ) → 0 < d → n / d < g → d - n % d ≤ distance n (g * d)
from_above n d g h lt = omega (arith, div-add-mod' n d, times d (n / d + 1) g (omega (arith, lt)))

-- nearest
pub snap_whole : (n d : ℕ) → 0 < d → n % d < d - n % d → IsSize Snap UNITS n d (n / d)
snap_whole n d h lt = let e = at_whole n d in record { near = omega (arith, e); away = λ k. absurd (omega (arith, e, k)) }

pub snap_next : (n d : ℕ) → 0 < d → d - n % d ≤ n % d → IsSize Snap UNITS n d (n / d + 1)
snap_next n d h le = let e = at_next n d h in record { near = omega (arith, e); away = λ k. omega (arith, div-add-mod' n d) }

-- close
pub exact_whole : (n d : ℕ) → n % d < (UNITS * d + 999) / 1000 → IsSize Exact UNITS n d (n / d)
exact_whole n d lt = omega (arith, at_whole n d)

pub exact_next : (n d : ℕ) → 0 < d → d - n % d < (UNITS * d + 999) / 1000 → IsSize Exact UNITS n d (n / d + 1)
exact_next n d h lt = omega (arith, at_next n d h)

pub exact_none : (n d : ℕ) → 0 < d → (UNITS * d + 999) / 1000 ≤ n % d → (UNITS * d + 999) / 1000 ≤ d - n % d → (g : ℕ) → IsSize Exact UNITS n d g → ⊥
exact_none n d h low high g close = elim (split g (n / d)) [
  | inl le ↦ omega (arith, from_below n d g le)
  | inr lt ↦ omega (arith, from_above n d g h lt)
]
  where
    split : (a b : ℕ) → (a ≤ b) ⊎ (b < a)
    split a b = grind arith

pub ruleset roundings = (snap_whole, snap_next, exact_whole, exact_next, exact_none)

-- powers of ten

pub power_most : (z : ℕ) → z ≤ 38 → 10 ^ z ≤ 10 ^ 38
power_most z h = pow-le-pow_right {n = 10} (omega arith) {i = z} {j = 38} h

pub power_few : (z : ℕ) → z ≤ 15 → 10 ^ z ≤ 10 ^ 15
power_few z h = pow-le-pow_right {n = 10} (omega arith) {i = z} {j = 15} h

-- after 39 and 40 places so little is left that it is nothing, or lies between nothing and one
pub tiny_power : (z : ℕ) → 38 < z → 10 ^ 39 ≤ 10 ^ z
tiny_power z h = pow-le-pow_right {n = 10} (omega arith) {i = 39} {j = z} h

-- after so many places nothing is left
pub far_power : (z : ℕ) → 40 < z → 10 ^ 41 ≤ 10 ^ z
far_power z h = pow-le-pow_right {n = 10} (omega arith) {i = 41} {j = z} h

pub tiny_snap : (n z : ℕ) → n ≤ MOST_COUNT → 38 < z → IsSize Snap UNITS (UNITS * n) (10 ^ z) 0
tiny_snap n z small far =
    let up = tiny_power z far in
    record { near = omega (arith, up); away = λ k. absurd (omega (arith, up, k)) }

-- three places less
pub three_less : (z : ℕ) → 38 < z → 10 ^ z ≡ 1000 * 10 ^ (z - 3)
three_less z h = ap (λ (k : ℕ). 10 ^ k) (same z h) ∙ pow-add 10 3 (z - 3)
  where
    same : (z : ℕ) → 38 < z → z ≡ 3 + (z - 3)
    same z h = omega (arith, h)

pub less_power : (z : ℕ) → z ≤ 40 → 10 ^ (z - 3) ≤ 10 ^ 37
less_power z h = pow-le-pow_right {n = 10} (omega arith) {i = z - 3} {j = 37} (omega (arith, h))

pub ruleset part_sizes = (power_some, power_most, power_few, tiny_power, far_power, tiny_snap, three_less, less_power)

-- whole sizes

pub many_digits : (n z : ℕ) → MOST < n → MOST < UNITS * (n * 10 ^ z)
many_digits n z h = omega (arith, mul-le-mul_left n (power_some z))

pub many_zeros : (n z : ℕ) → (n ≡ 0 → ⊥) → 7 < z → MOST < UNITS * (n * 10 ^ z)
many_zeros n z h far =
    let up : 10 ^ 8 ≤ 10 ^ z = pow-le-pow_right {n = 10} (omega arith) {i = 8} {j = z} far in
    let some : 1 ≤ n = grind arith in
    omega (arith, up, times (10 ^ z) 1 n some)

pub few_zeros : (n z : ℕ) → n ≤ MOST → z ≤ 7 → n * 10 ^ z ≤ MOST * 10 ^ 7
few_zeros n z h near =
    let up : 10 ^ z ≤ 10 ^ 7 = pow-le-pow_right {n = 10} (omega arith) {i = z} {j = 7} near in
    omega (arith, mul-le-mul_left n up, times (10 ^ 7) n MOST h)

pub few_power : (z : ℕ) → z ≤ 7 → 10 ^ z ≤ 10 ^ 7
few_power z near = pow-le-pow_right {n = 10} (omega arith) {i = z} {j = 7} near

pub ruleset whole_sizes = (many_digits, many_zeros, few_zeros, few_power)
