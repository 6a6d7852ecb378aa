-- How large what is computed of points of the grid can be.
use Rattle.std.specs.Prelude.{ℕ, ◌*◌}
use Rattle.bim_model.specs.Points.{step_limit, cross_limit}
use Rattle.tri_exact.specs.declared.TheConstants.{DISTANCE_LIMIT}

-- the greatest distance that the tests take
abbrev pub distance_limit : ℕ
distance_limit = DISTANCE_LIMIT

-- the scalar product of two steps
abbrev pub product_limit : ℕ
product_limit = 3 * (step_limit * step_limit)

-- the scalar product of a step and such a vector product
abbrev pub height_limit : ℕ
height_limit = 3 * (step_limit * cross_limit)

-- the square of such a vector product
abbrev pub square_limit : ℕ
square_limit = 3 * (cross_limit * cross_limit)

-- a difference of two products of scalar products
abbrev pub minor_limit : ℕ
minor_limit = 2 * (product_limit * product_limit)
