-- The order of a product and a number, by the quotient of the number.
use Rattle.std.proofs.Common.{◌≡◌, ℕ, ◌+◌, ◌*◌, ◌/◌, ◌%◌, ◌^◌, ◌<◌, ◌≤◌, refl, ap, ◌∙◌, arith}
use Rattle.std.specs.declared.cmp.Ordering.{Ordering}
use Rattle.std.specs.declared.cmp.Ordering.TheVariants.{Less, Equal, Greater}
use Rattle.std.specs.Ordering.{nat_cmp, MatchOrdering}
use Rattle.std.specs.Cmp.{nat_cmp_is}
use Rattle.std.proofs.lemmas.Cmp.{ranked}
use Rattle.std.proofs.lemmas.Nat.{div-add-mod'}
use Rattle.std.proofs.Math.Nat.{pow-le-pow_right, mul-le-mul_left, one-le-pow}

pub times : (k a b : ℕ) → a ≤ b → a * k ≤ b * k
times k a b h = omega (arith, mul-le-mul_left k h)

pub power_some : (z : ℕ) → 0 < 10 ^ z
power_some z = one-le-pow z 10 (omega arith)

pub power_most : (z : ℕ) → z ≤ 34 → 10 ^ z < 2 ^ 128
power_most z h = let up : 10 ^ z ≤ 10 ^ 34 = pow-le-pow_right {n = 10} (omega arith) {i = z} {j = 34} h in omega (arith, up)

-- over 34 zeros
pub order_far : (a z b : ℕ) → 0 < a → b < 10 ^ 34 → 34 < z → Greater ≡ nat_cmp (a * 10 ^ z) b
order_far a z b some few far =
    let up : 10 ^ 34 ≤ 10 ^ z = pow-le-pow_right {n = 10} (omega arith) {i = 34} {j = z} (omega arith) in
    nat_cmp_is (a * 10 ^ z) b Greater (omega (arith, up, times (10 ^ z) 1 a some))

apart : (r : Ordering) (a b s : ℕ) → 0 < s → (a ≡ b / s → ⊥) → MatchOrdering r (a < b / s) (a ≡ b / s) (b / s < a) → MatchOrdering r (a * s < b) (a * s ≡ b) (b < a * s)
apart Less a b s h n lt = omega (arith, div-add-mod' b s, times s (a + 1) (b / s) (omega (arith, lt)))
apart Equal a b s h n e = absurd (n e)
apart Greater a b s h n lt = omega (arith, div-add-mod' b s, times s (b / s + 1) a (omega (arith, lt)))

pub order_apart : (a s b : ℕ) → 0 < s → (a ≡ b / s → ⊥) → nat_cmp a (b / s) ≡ nat_cmp (a * s) b
order_apart a s b h n = nat_cmp_is (a * s) b (nat_cmp a (b / s)) (apart (nat_cmp a (b / s)) a b s h n (ranked a (b / s) (nat_cmp a (b / s)) refl))

pub order_even : (a s b : ℕ) → 0 < s → a ≡ b / s → b % s ≡ 0 → Equal ≡ nat_cmp (a * s) b
order_even a s b h e r = nat_cmp_is (a * s) b Equal (ap (λ (x : ℕ). x * s) e ∙ omega (arith, div-add-mod' b s))

pub order_rest : (a s b : ℕ) → 0 < s → a ≡ b / s → (b % s ≡ 0 → ⊥) → Less ≡ nat_cmp (a * s) b
order_rest a s b h e r = nat_cmp_is (a * s) b Less (below (ap (λ (x : ℕ). x * s) e))
  where
    below : a * s ≡ b / s * s → a * s < b
    below k = omega (arith, k, div-add-mod' b s, r)

pub ruleset quotients = (power_some, power_most, order_far, order_apart, order_even, order_rest)
