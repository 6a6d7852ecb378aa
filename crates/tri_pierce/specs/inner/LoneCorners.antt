-- Corners of a triangle that are alone on their side of a plane.
use Rattle.std.specs.Prelude.{ℤ, pos, ◌+ℤ◌, ◌-ℤ◌, ◌≤ℤ◌, ◌<ℤ◌, ◌≡◌, ◌≤◌, ◌⊎◌, unsigned_abs}
use Rattle.exact_arith.specs.Space.{Face}
use Rattle.tri_exact.specs.Pierce.{height}
use Rattle.tri_exact.specs.ProductLimits.{height_limit}
use Rattle.tri_exact.specs.GridVectors.{at, IsPoint}
use Rattle.tri_pierce.specs.declared.face_corners.Corners.{Corners}
use Rattle.tri_pierce.specs.declared.heights.Heights.{Heights}

-- the face of three corners
abbrev pub face_of : Corners → Face
face_of t = record { a = at t.a; b = at t.b; c = at t.c }

-- each corner lies on the grid
pub record InGrid (t : Corners) : Type 0 where
  pub a_in : IsPoint t.a
  pub b_in : IsPoint t.b
  pub c_in : IsPoint t.c

-- the corners in turn
abbrev pub turn_of : Face → Face
turn_of t = record { a = t.b; b = t.c; c = t.a }

-- the last two corners in the other order
abbrev pub mirror_of : Face → Face
mirror_of t = record { a = t.a; b = t.c; c = t.b }

-- how high the corners of s lie over the plane of t
pub record AreHeights (h : Heights) (t s : Face) : Type 0 where
  pub a_is : h.a ≡ height s.a t
  pub b_is : h.b ≡ height s.b t
  pub c_is : h.c ≡ height s.c t

-- the heights are within their limit
pub record AreTall (h : Heights) : Type 0 where
  pub a_in : unsigned_abs h.a ≤ height_limit
  pub b_in : unsigned_abs h.b ≤ height_limit
  pub c_in : unsigned_abs h.c ≤ height_limit

-- one of three heights is above 0
abbrev pub SomeAbove : (h k l : ℤ) → Type 0
SomeAbove h k l = (pos 0 <ℤ h) ⊎ ((pos 0 <ℤ k) ⊎ (pos 0 <ℤ l))

-- one of three heights is below 0
abbrev pub SomeBelow : (h k l : ℤ) → Type 0
SomeBelow h k l = (h <ℤ pos 0) ⊎ ((k <ℤ pos 0) ⊎ (l <ℤ pos 0))

-- three heights on both sides of 0
abbrev pub Split : (h k l : ℤ) → Type 0
Split h k l = SomeAbove h k l × SomeBelow h k l

-- the first is above 0 and the others aren't, and one of these is below
pub record Alone (h k l : ℤ) : Type 0 where
  pub above : pos 0 <ℤ h
  pub second : k ≤ℤ pos 0
  pub third : l ≤ℤ pos 0
  pub below : (k +ℤ l) <ℤ pos 0

-- .. above 0 or below
abbrev pub Lone : (h k l : ℤ) → Type 0
Lone h k l = Alone h k l ⊎ Alone (pos 0 -ℤ h) (pos 0 -ℤ k) (pos 0 -ℤ l)

-- the first corner of s is alone above the plane of t
abbrev pub AloneOver : Face → Face → Type 0
AloneOver t s = Alone (height s.a t) (height s.b t) (height s.c t)

-- .. or below it
abbrev pub LoneOver : Face → Face → Type 0
LoneOver t s = Lone (height s.a t) (height s.b t) (height s.c t)
