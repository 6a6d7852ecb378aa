-- A triangle's plane, and the heights of another triangle's corners over it.
use Rattle.std.specs.Prelude.{ℕ, ℤ, pos, ◌-ℤ◌, ◌*ℤ◌, ◌≤ℤ◌, ◌<ℤ◌, ◌≡◌, ◌≤◌, ◌⊎◌, unsigned_abs}
use Rattle.exact_arith.specs.Space.{minus, dot_of, Face, normal}
use Rattle.tri_exact.specs.Within.{FootWithin}
use Rattle.tri_exact.specs.Pierce.{PiercesFace}
use Rattle.tri_exact.specs.ProductLimits.{height_limit, square_limit}
use Rattle.tri_exact.specs.GridVectors.{at, straight}
use Rattle.clearance.specs.declared.planes.Plane.{Plane}
use Rattle.clearance.specs.declared.planes.Heights.{Heights}

-- the plane of a face by its two edges, its normal and the normal's square, which is within its limit
pub record IsPlane (k : Plane) (t : Face) : Type 0 where
  pub edge_is : at k.edge ≡ minus t.b t.a
  pub side_is : at k.side ≡ minus t.c t.a
  pub normal_is : straight k.normal ≡ normal t
  pub square_is : k.square ≡ dot_of (normal t) (normal t)
  pub square_in : unsigned_abs k.square ≤ square_limit

-- how high the corners of a face lie over the plane of another
pub record IsOver (h : Heights) (t s : Face) : Type 0 where
  pub a_is : h.a ≡ dot_of (minus s.a t.a) (normal t)
  pub b_is : h.b ≡ dot_of (minus s.b t.a) (normal t)
  pub c_is : h.c ≡ dot_of (minus s.c t.a) (normal t)

-- the heights are within their limit
pub record IsTall (h : Heights) : Type 0 where
  pub a_in : unsigned_abs h.a ≤ height_limit
  pub b_in : unsigned_abs h.b ≤ height_limit
  pub c_in : unsigned_abs h.c ≤ height_limit

-- three heights above a plane, the least of them not low over the root of f
pub record Clear (a b c f : ℤ) (d : ℕ) : Type 0 where
  pub least : ℤ
  pub above : pos 0 <ℤ least
  pub a_in : least ≤ℤ a
  pub b_in : least ≤ℤ b
  pub c_in : least ≤ℤ c
  pub far : (pos d *ℤ pos d *ℤ f) <ℤ (least *ℤ least)

-- three heights on one side of a plane, none of them low
abbrev pub IsClear : ℤ → ℤ → ℤ → ℤ → ℕ → Type 0
IsClear a b c f d = Clear a b c f d ⊎ Clear (pos 0 -ℤ a) (pos 0 -ℤ b) (pos 0 -ℤ c) f d

-- a corner of s is over t and at most d from it, or an edge of s goes through t
abbrev pub SideNear : Face → Face → ℕ → Type 0
SideNear t s d =
    (FootWithin s.a t d ⊎ (FootWithin s.b t d ⊎ FootWithin s.c t d))
    ⊎ (PiercesFace s.a s.b t ⊎ (PiercesFace s.b s.c t ⊎ PiercesFace s.c s.a t))
