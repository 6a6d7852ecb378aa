-- Coordinates as registers of 32 bits give them back
use Rattle.std.proofs.Common.{◌⊎◌, inl, inr, ◌≤◌, arith, ℤ, ◌≤ℤ◌, IsTrue, sym, subst}
use Rattle.std.specs.Prelude.{unsigned_abs}
use Rattle.std.proofs.lemmas.Int.{ints}
use lib.Signed.{le_z}
use Rattle.clearance.proofs.Words.{in_32, same_32}
use Rattle.tri_pierce.specs.inner.TouchingBoxes.{Before}

abbrev pub Small : ℤ → Type 0
Small a = unsigned_abs a ≤ 8000000

pub held_32 : (a : ℤ) → Small a → Small (in_32 a)
held_32 a h = subst Small (sym (same_32 a h)) h

at_most : (a b : ℤ) → IsTrue (le_z a b) → a ≤ℤ b
at_most a b h = omega (arith, ints, h)

pub tested : (a b : ℤ) → Small a → Small b → IsTrue (le_z (in_32 a) (in_32 b)) → a ≤ℤ b
tested a b f g h = subst (λ (x : ℤ). x ≤ℤ b) (same_32 a f) (subst (λ (y : ℤ). in_32 a ≤ℤ y) (same_32 b g) (at_most (in_32 a) (in_32 b) h))

pub low_named : (a m : ℤ) → Small a → in_32 a ≤ℤ m → a ≤ℤ m
low_named a m f h = subst (λ (x : ℤ). x ≤ℤ m) (same_32 a f) h

pub high_named : (a m : ℤ) → Small a → m ≤ℤ in_32 a → m ≤ℤ a
high_named a m f h = subst (λ (x : ℤ). m ≤ℤ x) (same_32 a f) h

pub before_named : (a b c p q r : ℤ) → Small a → Small b → Small c → Small p → Small q → Small r → Before (in_32 a) (in_32 b) (in_32 c) (in_32 p) (in_32 q) (in_32 r) → Before a b c p q r
before_named a b c p q r ha hb hc hp hq hr k =
    let m = k.between in
    record { between = m; a_in = low_named a m ha k.a_in; b_in = low_named b m hb k.b_in; c_in = low_named c m hc k.c_in; p_in = high_named p m hp k.p_in; q_in = high_named q m hq k.q_in; r_in = high_named r m hr k.r_in }

-- what the test of six coordinates told, by their names
pub named : (a b c p q r : ℤ) → Small a → Small b → Small c → Small p → Small q → Small r →
    Before (in_32 a) (in_32 b) (in_32 c) (in_32 p) (in_32 q) (in_32 r) ⊎ Before (in_32 p) (in_32 q) (in_32 r) (in_32 a) (in_32 b) (in_32 c) → Before a b c p q r ⊎ Before p q r a b c
named a b c p q r ha hb hc hp hq hr (inl k) = inl (before_named a b c p q r ha hb hc hp hq hr k)
named a b c p q r ha hb hc hp hq hr (inr k) = inr (before_named p q r a b c hp hq hr ha hb hc k)
