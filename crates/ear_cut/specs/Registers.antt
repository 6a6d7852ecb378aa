-- The numbers that the code keeps, as plain vectors and spots.
use Rattle.std.specs.Prelude.{ℕ, ◌≤◌, unsigned_abs}
use Rattle.ear_cut.specs.declared.normals.Normal.{Normal}
use Rattle.ear_cut.specs.declared.coordinates.Way.{Way}
use Rattle.ear_cut.specs.declared.coordinates.Flat.{Flat}
use Rattle.exact_arith.specs.Space.{Vector}
use Rattle.ear_cut.specs.PolygonViews.{Spot}

-- a normal as a vector
abbrev pub as_vector : Normal → Vector
as_vector n = record { x = n.x; y = n.y; z = n.z }

-- each component is at most m in size
pub record IsWithin (n : Normal) (m : ℕ) : Type 0 where
  pub x_in : unsigned_abs n.x ≤ m
  pub y_in : unsigned_abs n.y ≤ m
  pub z_in : unsigned_abs n.z ≤ m

-- a spot in registers as a spot
abbrev pub as_spot : Flat → Spot
as_spot f = record { u = f.u; v = f.v }

-- a way in registers as a vector
abbrev pub as_way : Way → Vector
as_way a = record { x = a.x; y = a.y; z = a.z }

-- each component of the way is at most m in size
pub record IsStep (a : Way) (m : ℕ) : Type 0 where
  pub x_in : unsigned_abs a.x ≤ m
  pub y_in : unsigned_abs a.y ≤ m
  pub z_in : unsigned_abs a.z ≤ m
