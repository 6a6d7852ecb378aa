-- Convex polygons, as far as the code tells them: all corners lie round the last one, in their order.
use Rattle.std.specs.Prelude.{ℕ, ◌+◌, ◌-◌, ◌<◌, ℤ, pos, ◌<ℤ◌, List, length, slice_index_or}
use Rattle.ear_cut.specs.declared.polygon_view.View.{View}
use Rattle.ear_cut.specs.declared.corners.Corner.{Corner}
use Rattle.ear_cut.specs.PolygonViews.{Spot, seen, area}
use Rattle.ear_cut.specs.Corners.{nobody}

-- the i-th corner as the view shows it
abbrev pub spot_at : View → List Corner → ℕ → Spot
spot_at view left i = seen view.axis (slice_index_or left i nobody).point

-- the area of three corners by their places
abbrev pub area_at : View → List Corner → ℕ → ℕ → ℕ → ℤ
area_at view left i j k = area view (spot_at view left i) (spot_at view left j) (spot_at view left k)

-- the i-th corner is after the one before it round the last corner, less than half a turn after the first, and convex
pub record IsFanAt (view : View) (left : List Corner) (i : ℕ) : Type 0 where
  pub round : pos 0 <ℤ area_at view left (length left - 1) (i - 1) i
  pub half : pos 0 <ℤ area_at view left (length left - 1) 0 i
  pub convex : pos 0 <ℤ area_at view left (i - 1) i (i + 1)

-- .. each corner but the first and the last
pub record IsFan (view : View) (left : List Corner) : Type 0 where
  pub many : 2 < length left
  pub each : (i : ℕ) → 0 < i → i + 1 < length left → IsFanAt view left i
