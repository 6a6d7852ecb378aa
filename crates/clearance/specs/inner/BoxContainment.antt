-- Boxes along the axes.
use Rattle.std.specs.Prelude.{ℕ, ◌<◌, ◌≤ℤ◌, ◌⊎◌}
use Rattle.exact_arith.specs.Space.{Vector, Face}
use Rattle.bim_model.specs.declared.geometry.Extent.{Extent}
use Rattle.bim_model.specs.Points.{vector_of, IsGridPoint}
use Rattle.bim_model.specs.Gaps.{gap}

-- p lies between the corners l and h of a box
pub record Between (l h p : Vector) : Type 0 where
  pub x_low : l.x ≤ℤ p.x
  pub y_low : l.y ≤ℤ p.y
  pub z_low : l.z ≤ℤ p.z
  pub x_high : p.x ≤ℤ h.x
  pub y_high : p.y ≤ℤ h.y
  pub z_high : p.z ≤ℤ h.z

-- the corners of t lie in the box
pub record InExtent (k : Extent) (t : Face) : Type 0 where
  pub a_in : Between (vector_of k.low) (vector_of k.high) t.a
  pub b_in : Between (vector_of k.low) (vector_of k.high) t.b
  pub c_in : Between (vector_of k.low) (vector_of k.high) t.c

-- a box whose corners lie on the grid
pub record IsExtent (k : Extent) : Type 0 where
  pub low_in : IsGridPoint k.low
  pub high_in : IsGridPoint k.high

-- the box k lies within the box m
pub record Wider (k m : Extent) : Type 0 where
  pub x_low : m.low.x ≤ℤ k.low.x
  pub y_low : m.low.y ≤ℤ k.low.y
  pub z_low : m.low.z ≤ℤ k.low.z
  pub x_high : k.high.x ≤ℤ m.high.x
  pub y_high : k.high.y ≤ℤ m.high.y
  pub z_high : k.high.z ≤ℤ m.high.z

-- two boxes with a gap of more than d on an axis
abbrev pub IsOff : Extent → Extent → ℕ → Type 0
IsOff k m d =
    (d < gap k.low.x k.high.x m.low.x m.high.x)
    ⊎ ((d < gap k.low.y k.high.y m.low.y m.high.y)
    ⊎ (d < gap k.low.z k.high.z m.low.z m.high.z))
