-- How many corners a polygon may have, and how large what is computed of them can be.
use Rattle.std.specs.Prelude.{ℕ, ◌*◌}
use Rattle.bim_model.specs.Points.{grid_limit}
use Rattle.ear_cut.specs.declared.removal.TheConstants.{MOST_CORNERS}

-- the greatest number of corners
abbrev pub most_corners : ℕ
most_corners = MOST_CORNERS

-- each part of the vector product of two points
abbrev pub product_limit : ℕ
product_limit = 2 * (grid_limit * grid_limit)

-- each part of a normal
abbrev pub normal_limit : ℕ
normal_limit = most_corners * product_limit
