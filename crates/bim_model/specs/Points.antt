-- Points of the grid, and the vectors to them.
use Rattle.std.specs.Prelude.{ℕ, ◌*◌, ◌≤◌, unsigned_abs}
use Rattle.exact_arith.specs.Space.{Vector, minus, Face}
use Rattle.bim_model.specs.declared.geometry.Point.{Point}
use Rattle.bim_model.specs.declared.geometry.Triangle.{Triangle}
use Rattle.bim_model.specs.declared.geometry.TheConstants.{GRID_LIMIT}

-- a point as the vector from the origin
abbrev pub vector_of : Point → Vector
vector_of p = record { x = p.x; y = p.y; z = p.z }

-- a triangle by the vectors to its corners
abbrev pub shape_of : Triangle → Face
shape_of t = record { a = vector_of t.a; b = vector_of t.b; c = vector_of t.c }

-- the way from a to b
abbrev pub step : Point → Point → Vector
step a b = minus (vector_of b) (vector_of a)

-- how far from zero a point of the grid may lie on each axis
abbrev pub grid_limit : ℕ
grid_limit = unsigned_abs GRID_LIMIT

-- how long a way from one point of the grid to another may be on each axis
abbrev pub step_limit : ℕ
step_limit = 2 * grid_limit

-- how large each part of the vector product of two such ways can be
abbrev pub cross_limit : ℕ
cross_limit = 2 * (step_limit * step_limit)

-- a point of the grid
pub record IsGridPoint (p : Point) : Type 0 where
  pub x_in : unsigned_abs p.x ≤ grid_limit
  pub y_in : unsigned_abs p.y ≤ grid_limit
  pub z_in : unsigned_abs p.z ≤ grid_limit

-- a triangle with its corners at points of the grid
pub record IsInGrid (t : Triangle) : Type 0 where
  pub a_in : IsGridPoint t.a
  pub b_in : IsGridPoint t.b
  pub c_in : IsGridPoint t.c
