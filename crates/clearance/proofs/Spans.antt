-- The gap of two spans of an axis is more than d where the one ends more than d below the other.
use Rattle.std.proofs.Common.{ℕ, ◌<◌, ◌≤◌, ◌⊎◌, inl, inr, max, ℤ, pos, negsuc, ◌+ℤ◌, ◌-ℤ◌, ◌≤ℤ◌, ◌<ℤ◌, arith}
use Rattle.std.proofs.lemmas.Int.{ints, by_lt_z}
use borrow.Author.Differences.{up}
use Rattle.bim_model.specs.Gaps.{gap}

above : (d : ℕ) (z : ℤ) → d < up z → pos d <ℤ z
above d (pos n) h = omega (arith, ints, h)
above d (negsuc n) h = absurd (omega (arith, h))

over : (d : ℕ) (z : ℤ) → pos d <ℤ z → d < up z
over d (pos n) h = omega (arith, ints, h)
over d (negsuc n) h = absurd (omega (arith, ints, h))

at_most : (d : ℕ) (z : ℤ) → z ≤ℤ pos d → up z ≤ d
at_most d (pos n) h = omega (arith, ints, h)
at_most d (negsuc n) h = omega arith

greater : (d a b : ℕ) → d < max a b → b ≤ d → d < a
greater d a b h k = omega (arith, h, k)

pub off_above : (low high other_low other_high : ℤ) (d : ℕ) → (high +ℤ pos d) <ℤ other_low → d < gap low high other_low other_high
off_above low high other_low other_high d h =
    let k : d < up (other_low -ℤ high) = over d (other_low -ℤ high) (omega (arith, ints, h)) in omega (arith, k)

pub off_below : (low high other_low other_high : ℤ) (d : ℕ) → (other_high +ℤ pos d) <ℤ low → d < gap low high other_low other_high
off_below low high other_low other_high d h =
    let k : d < up (low -ℤ other_high) = over d (low -ℤ other_high) (omega (arith, ints, h)) in omega (arith, k)

pub sides : (low high other_low other_high : ℤ) (d : ℕ) → d < gap low high other_low other_high → ((high +ℤ pos d) <ℤ other_low) ⊎ ((other_high +ℤ pos d) <ℤ low)
sides low high other_low other_high d h =
    by_lt_z (high +ℤ pos d) other_low (λ x. inl x)
    (λ x.
    let k : up (other_low -ℤ high) ≤ d = at_most d (other_low -ℤ high) (omega (arith, ints, x)) in
    let z = above d (low -ℤ other_high) (greater d (up (low -ℤ other_high)) (up (other_low -ℤ high)) h k) in inr (omega (arith, ints, z)))
