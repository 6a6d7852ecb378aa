-- The numbers of the foot of a point on a plane, and of the least distance of two lines, all over the square
-- of the plane's normal. The plane goes along e and u, and r leads from its origin to the point.
use Rattle.std.specs.Prelude.{ℤ, pos, ◌-ℤ◌, ◌≤ℤ◌}
use Rattle.exact_arith.specs.Space.{Vector, minus, dot_of, cross_of}

-- the square of the normal of two vectors' plane
abbrev pub square_of : Vector → Vector → ℤ
square_of e u = dot_of (cross_of e u) (cross_of e u)

-- how far along the first vector a point's foot lies in their plane, in parts of the normal's square
abbrev pub along_of : Vector → Vector → Vector → ℤ
along_of e u r = dot_of (cross_of r u) (cross_of e u)

-- how far along the second vector the foot lies, in the same parts
abbrev pub across_of : Vector → Vector → Vector → ℤ
across_of e u r = dot_of (cross_of e r) (cross_of e u)

-- how high a point lies over the plane, by the normal
abbrev pub height_of : Vector → Vector → Vector → ℤ
height_of e u r = dot_of r (cross_of e u)

-- six times the volume of four corners, with a sign
abbrev pub orient_of : Vector → Vector → Vector → Vector → ℤ
orient_of a b c d = dot_of (cross_of (minus b a) (minus c a)) (minus d a)

-- the foot lies in the triangle along e and u, where this has an area
pub record Inside (e u r : Vector) : Type 0 where
  pub a_in : pos 0 ≤ℤ (square_of e u -ℤ along_of e u r -ℤ across_of e u r)
  pub b_in : pos 0 ≤ℤ along_of e u r
  pub c_in : pos 0 ≤ℤ across_of e u r
