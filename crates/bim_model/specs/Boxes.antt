-- Boxes round triangles.
use Rattle.std.specs.Prelude.{ℤ, ◌≤ℤ◌, List, [], ◌∷◌, map, All, Contains}
use Rattle.bim_model.specs.declared.geometry.Point.{Point}
use Rattle.bim_model.specs.declared.geometry.Triangle.{Triangle}
use Rattle.bim_model.specs.declared.geometry.Extent.{Extent}

-- the corners of all triangles
abbrev pub corners_of : List Triangle → List Point
corners_of [] = []
corners_of (t ∷ ts) = t.a ∷ t.b ∷ t.c ∷ corners_of ts

-- the number is one of the list, and none is lower
pub record IsLeast (numbers : List ℤ) (least : ℤ) : Type 0 where
  pub reached : Contains numbers least
  pub bound : All (λ n. least ≤ℤ n) numbers

-- the number is one of the list, and none is higher
pub record IsGreatest (numbers : List ℤ) (greatest : ℤ) : Type 0 where
  pub reached : Contains numbers greatest
  pub bound : All (λ n. n ≤ℤ greatest) numbers

-- the box holds all the points, and a point lies on each of its six sides
pub record Bounds (points : List Point) (extent : Extent) : Type 0 where
  pub low_x : IsLeast (map (λ (p : Point). p.x) points) extent.low.x
  pub low_y : IsLeast (map (λ (p : Point). p.y) points) extent.low.y
  pub low_z : IsLeast (map (λ (p : Point). p.z) points) extent.low.z
  pub high_x : IsGreatest (map (λ (p : Point). p.x) points) extent.high.x
  pub high_y : IsGreatest (map (λ (p : Point). p.y) points) extent.high.y
  pub high_z : IsGreatest (map (λ (p : Point). p.z) points) extent.high.z

-- the smallest box round the triangles
abbrev pub IsExtentOf : List Triangle → Extent → Type 0
IsExtentOf triangles extent = Bounds (corners_of triangles) extent
