-- Distances of clash rules, in whole millimetres.
use Rattle.std.specs.Prelude.{ℕ, ◌*◌, ◌≤◌, unsigned_abs}
use Rattle.bim_model.specs.declared.geometry.TheConstants.{PER_MM}
use Rattle.bim_model.specs.declared.limits.TheConstants.{MOST_DISTANCE}

-- a distance that a rule may have
abbrev pub IsDistance : ℕ → Type 0
IsDistance millimetres = millimetres ≤ MOST_DISTANCE

-- the same length in grid numbers
abbrev pub in_grid_numbers : ℕ → ℕ
in_grid_numbers millimetres = millimetres * unsigned_abs PER_MM
