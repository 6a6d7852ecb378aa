-- Numbers as they are told.
use Rattle.std.proofs.Common.{◌≡◌, ℕ, ◌+◌, arith}
use Rattle.book_history.specs.Weights.{told}

-- a sum whose two parts were told
pub told_both : (a b : ℕ) → told (told a + told b) ≡ told (a + b)
told_both a b = omega arith
