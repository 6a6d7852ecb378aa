-- Triangles projected on a direction.
use Rattle.std.specs.Prelude.{ℕ, ◌≤◌, ◌≤ℤ◌, unsigned_abs, List, All}
use Rattle.bim_model.specs.declared.geometry.Triangle.{Triangle}
use Rattle.bim_model.specs.declared.geometry.Extent.{Extent}
use Rattle.exact_arith.specs.Space.{Vector, Face, minus, dot_of}
use Rattle.tri_exact.specs.ProductLimits.{height_limit}
use Rattle.bim_model.specs.Points.{shape_of}
use Rattle.clearance.specs.Near.{FacesNear}
use Rattle.clearance.specs.inner.BoxContainment.{InExtent}
use Rattle.clearance.specs.declared.projections.Interval.{Interval}

-- the places of the corners of t across v, from the point o on, lie in the interval
pub record InInterval (o v : Vector) (k : Interval) (t : Face) : Type 0 where
  pub a_low : k.low ≤ℤ dot_of (minus t.a o) v
  pub b_low : k.low ≤ℤ dot_of (minus t.b o) v
  pub c_low : k.low ≤ℤ dot_of (minus t.c o) v
  pub a_high : dot_of (minus t.a o) v ≤ℤ k.high
  pub b_high : dot_of (minus t.b o) v ≤ℤ k.high
  pub c_high : dot_of (minus t.c o) v ≤ℤ k.high

-- an interval whose ends are within the limit of heights
pub record IsInterval (k : Interval) : Type 0 where
  pub low_in : unsigned_abs k.low ≤ height_limit
  pub high_in : unsigned_abs k.high ≤ height_limit

-- the interval k lies within the interval m
pub record Longer (k m : Interval) : Type 0 where
  pub low : m.low ≤ℤ k.low
  pub high : k.high ≤ℤ m.high

-- if t is near to anything in the box `around`, its places lie in the interval k
abbrev pub ProjectsIn : Extent → ℕ → Vector → Vector → Interval → Triangle → Type 0
ProjectsIn around d o v k t =
    (s : Face) → InExtent around s → FacesNear s (shape_of t) d → InInterval o v k (shape_of t)

-- .. of each triangle
abbrev pub AllProjectIn : Extent → ℕ → Vector → Vector → Interval → List Triangle → Type 0
AllProjectIn around d o v k ts = All (λ (t : Triangle). ProjectsIn around d o v k t) ts
