-- Whole points and vectors of space, with no bound on their numbers.
use Rattle.std.specs.Prelude.{ℤ, pos, ◌+ℤ◌, ◌-ℤ◌, ◌*ℤ◌, Bool, ◌&&◌}
use Rattle.std.specs.Ordering.{int_eq}

-- a point, or a way from one to another
pub record Vector : Type 0 where
  pub x : ℤ
  pub y : ℤ
  pub z : ℤ

-- the vector without a length
abbrev pub nowhere : Vector
nowhere = record { x = pos 0; y = pos 0; z = pos 0 }

-- the vector of no length
abbrev pub is_nowhere : Vector → Bool
is_nowhere a = int_eq a.x (pos 0) && int_eq a.y (pos 0) && int_eq a.z (pos 0)

-- the sum
abbrev pub plus : Vector → Vector → Vector
plus a b = record { x = a.x +ℤ b.x; y = a.y +ℤ b.y; z = a.z +ℤ b.z }

-- the difference: the way from b to a
abbrev pub minus : Vector → Vector → Vector
minus a b = record { x = a.x -ℤ b.x; y = a.y -ℤ b.y; z = a.z -ℤ b.z }

-- the vector k times as long
abbrev pub times : ℤ → Vector → Vector
times k a = record { x = k *ℤ a.x; y = k *ℤ a.y; z = k *ℤ a.z }

-- the scalar product
abbrev pub dot_of : Vector → Vector → ℤ
dot_of a b = a.x *ℤ b.x +ℤ a.y *ℤ b.y +ℤ a.z *ℤ b.z

-- the vector product
abbrev pub cross_of : Vector → Vector → Vector
cross_of a b =
    record { x = a.y *ℤ b.z -ℤ a.z *ℤ b.y; y = a.z *ℤ b.x -ℤ a.x *ℤ b.z; z = a.x *ℤ b.y -ℤ a.y *ℤ b.x }

-- a triangle by its corners, which may lie on one line or at one point
pub record Face : Type 0 where
  pub a : Vector
  pub b : Vector
  pub c : Vector

-- twice the area, along the normal
abbrev pub normal : Face → Vector
normal t = cross_of (minus t.b t.a) (minus t.c t.a)
