-- The program's points as vectors, and the bounds of what is computed from them.
use Rattle.std.specs.Prelude.{◌≤◌, unsigned_abs}
use Rattle.exact_arith.specs.Space.{Vector, Face}
use Rattle.bim_model.specs.Points.{grid_limit, cross_limit}
use Rattle.tri_exact.specs.declared.V3.{V3}
use Rattle.tri_exact.specs.declared.W3.{W3}
use Rattle.tri_exact.specs.declared.Normal.{Normal}

-- a vector of 32 bits as a vector
abbrev pub at : V3 → Vector
at v = record { x = v.x; y = v.y; z = v.z }

-- a vector of 64 bits as a vector
abbrev pub wide : W3 → Vector
wide v = record { x = v.x; y = v.y; z = v.z }

-- a normal as a vector
abbrev pub straight : Normal → Vector
straight n = record { x = n.x; y = n.y; z = n.z }

-- a face by three vectors of 32 bits
abbrev pub face_at : V3 → V3 → V3 → Face
face_at a b c = record { a = at a; b = at b; c = at c }

-- a point of the grid
pub record IsPoint (p : V3) : Type 0 where
  pub x_in : unsigned_abs p.x ≤ grid_limit
  pub y_in : unsigned_abs p.y ≤ grid_limit
  pub z_in : unsigned_abs p.z ≤ grid_limit

-- the vector product of two ways between points of the grid
pub record IsCross (n : W3) : Type 0 where
  pub x_in : unsigned_abs n.x ≤ cross_limit
  pub y_in : unsigned_abs n.y ≤ cross_limit
  pub z_in : unsigned_abs n.z ≤ cross_limit
