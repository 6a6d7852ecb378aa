-- Inequalities of whole numbers.
--
-- `certify env c a b y hc refl hy` proves `meaning env a ≤ℤ meaning env b`: c is above 0, and c · (b - a) is y,
-- a sum of products of numbers that are not negative. `refl` tests the equation as `ring` does. The proof hy
-- that y is not negative is `search nonneg`, with the facts `rest _ _ h : 0 ≤ b - a` bound by typed lets
-- before it, or a nest of `add_nonneg _ _` and `mul_nonneg _ _`.
-- Linear facts, with a few products, are `omega (arith, ints)`.
use Rattle.std.proofs.Common.{zero, suc, ◌≡◌, arith, ℤ, pos, negsuc, ◌+ℤ◌, ◌-ℤ◌, ◌*ℤ◌, ◌≤ℤ◌, ◌<ℤ◌, List, true}
use Rattle.std.proofs.lemmas.Int.{ints}
use Rattle.exact_arith.proofs.Ring.{ring, Term, meaning, poly, is_zero, ◌⊖◌, ◌⊗◌}

pub add_nonneg : (a b : ℤ) → pos 0 ≤ℤ a → pos 0 ≤ℤ b → pos 0 ≤ℤ (a +ℤ b)
add_nonneg a b h k = omega (arith, ints)

pub mul_nonneg : (a b : ℤ) → pos 0 ≤ℤ a → pos 0 ≤ℤ b → pos 0 ≤ℤ (a *ℤ b)
mul_nonneg (pos a) (pos b) h k = omega (arith, ints)
mul_nonneg (pos a) (negsuc b) h k = absurd (omega (arith, ints, k))
mul_nonneg (negsuc a) b h k = absurd (omega (arith, ints, h))

pub mul_positive : (a b : ℤ) → pos 0 <ℤ a → pos 0 <ℤ b → pos 0 <ℤ (a *ℤ b)
mul_positive (pos (suc a)) (pos (suc b)) h k = omega (arith, ints)
mul_positive (pos (suc a)) (pos zero) h k = absurd (omega (arith, ints, k))
mul_positive (pos (suc a)) (negsuc b) h k = absurd (omega (arith, ints, k))
mul_positive (pos zero) b h k = absurd (omega (arith, ints, h))
mul_positive (negsuc a) b h k = absurd (omega (arith, ints, h))

pub square_nonneg : (a : ℤ) → pos 0 ≤ℤ (a *ℤ a)
square_nonneg (pos a) = omega (arith, ints)
square_nonneg (negsuc a) = omega (arith, ints)

pub le_trans : (a b c : ℤ) → a ≤ℤ b → b ≤ℤ c → a ≤ℤ c
le_trans a b c h k = omega (arith, ints)

-- a negative number times a positive one is negative
cancel_zero : (c a : ℤ) → pos 0 <ℤ c → pos 0 ≤ℤ (c *ℤ a) → pos 0 ≤ℤ a
cancel_zero c (pos a) h k = omega (arith, ints)
cancel_zero (pos (suc c)) (negsuc a) h k = absurd (omega (arith, ints, k))
cancel_zero (pos zero) (negsuc a) h k = absurd (omega (arith, ints, h))
cancel_zero (negsuc c) (negsuc a) h k = absurd (omega (arith, ints, h))

pub cancel_nonneg : (c a : ℤ) → pos 0 <ℤ c → pos 0 ≤ℤ (c *ℤ a) → pos 0 ≤ℤ a
cancel_nonneg c a h k = cancel_zero c a h k

pub rest : (a b : ℤ) → a ≤ℤ b → pos 0 ≤ℤ (b -ℤ a)
rest a b h = omega (arith, ints)

pub from_rest : (a b : ℤ) → pos 0 ≤ℤ (b -ℤ a) → a ≤ℤ b
from_rest a b h = omega (arith, ints)

pub nonneg_by : (x y : ℤ) → x ≡ y → pos 0 ≤ℤ y → pos 0 ≤ℤ x
nonneg_by x y e h = rw e h

-- a ≤ b, where c times their difference is the sum of terms that are not negative
pub le_by_factor : (c a b y : ℤ) → pos 0 <ℤ c → c *ℤ (b -ℤ a) ≡ y → pos 0 ≤ℤ y → a ≤ℤ b
le_by_factor c a b y h e k = from_rest a b (cancel_nonneg c (b -ℤ a) h (nonneg_by (c *ℤ (b -ℤ a)) y e k))

pub ruleset nonneg = (add_nonneg, mul_nonneg, square_nonneg)

-- a ≤ b, by c * (b - a) ≡ y over the values of env
pub certify : (env : List ℤ) (c a b y : Term) → pos 0 <ℤ meaning env c → is_zero (poly (c ⊗ (b ⊖ a) ⊖ y)) ≡ true → pos 0 ≤ℤ meaning env y → meaning env a ≤ℤ meaning env b
certify env c a b y h e k = le_by_factor (meaning env c) (meaning env a) (meaning env b) (meaning env y) h (ring env (c ⊗ (b ⊖ a)) y e) k
