-- A gap across a direction.
use Rattle.std.specs.Prelude.{ℕ, ℤ, pos, ◌-ℤ◌, ◌*ℤ◌, ◌≤ℤ◌, ◌<ℤ◌}

-- the place low is above the place high by m or more, and m over the root of f is more than d
pub record Apart (high low f : ℤ) (d : ℕ) : Type 0 where
  pub m : ℤ
  pub some : pos 0 <ℤ m
  pub gap : m ≤ℤ (low -ℤ high)
  pub far : (pos d *ℤ pos d *ℤ f) <ℤ (m *ℤ m)
