-- Three numbers none of which is above any of three others.
use Rattle.std.specs.Prelude.{ℤ, ◌≤ℤ◌}

-- a, b and c are at most some number, and p, q and r at least that
pub record Before (a b c p q r : ℤ) : Type 0 where
  pub between : ℤ
  pub a_in : a ≤ℤ between
  pub b_in : b ≤ℤ between
  pub c_in : c ≤ℤ between
  pub p_in : between ≤ℤ p
  pub q_in : between ≤ℤ q
  pub r_in : between ≤ℤ r
