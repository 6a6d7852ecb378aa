-- The corners of a polygon that remain, each with its neighbours.
use Rattle.std.specs.Prelude.{ℕ, zero, suc, ◌+◌, ◌-◌, ◌==◌, ℤ, pos, negsuc, List, [], ◌∷◌, length, slice_index_or, Bool, true, false, All, if◌then◌else◌, Option, Some, None}
use Rattle.bim_model.specs.declared.geometry.Point.{Point}
use Rattle.ear_cut.specs.declared.polygon_view.View.{View}
use Rattle.ear_cut.specs.declared.corners.Corner.{Corner}
use Rattle.ear_cut.specs.declared.corners.Turn.{Turn}
use Rattle.ear_cut.specs.declared.corners.Angle.{Angle}
use Rattle.ear_cut.specs.declared.corners.Angle.TheVariants.{Straight, Convex, Reflex}
use Rattle.bim_model.specs.Points.{IsGridPoint, step}
use Rattle.exact_arith.specs.Space.{is_nowhere, cross_of}
use Rattle.ear_cut.specs.PolygonViews.{seen, area}

-- points with their places, counted from n on
abbrev pub corners_from : ℕ → List Point → List Corner
corners_from n [] = []
corners_from n (p ∷ ps) = record { place = n; point = p } ∷ corners_from (n + 1) ps

-- what stands where there is no corner
abbrev pub nobody : Corner
nobody = record { place = 0; point = record { x = pos 0; y = pos 0; z = pos 0 } }

-- the neighbours of the i-th of n in a closed list
abbrev pub previous : ℕ → ℕ → ℕ
previous n i = if i == 0 then n - 1 else (i - 1)

-- the place after a place, around an outline
abbrev pub next : ℕ → ℕ → ℕ
next n i = if i + 1 == n then 0 else (i + 1)

-- the i-th corner between its neighbours
unfoldable pub turn_at : List Corner → ℕ → Turn
turn_at left i = record {
  before = slice_index_or left (previous (length left) i) nobody;
  corner = slice_index_or left i nobody;
  after = slice_index_or left (next (length left) i) nobody;
}

-- the three corners of a turn lie on the grid
pub record InGrid (t : Turn) : Type 0 where
  pub before_in : IsGridPoint t.before.point
  pub corner_in : IsGridPoint t.corner.point
  pub after_in : IsGridPoint t.after.point

-- each corner stands at a point of the grid
unfoldable pub AreInGrid : List Corner → Type 0
AreInGrid left = All (λ (c : Corner). IsGridPoint c.point) left

-- the angle of a corner by the sign of its area
abbrev pub by_sign : ℤ → Angle
by_sign (pos zero) = Straight
by_sign (pos (suc n)) = Convex
by_sign (negsuc n) = Reflex

-- by the area of the triangle in the view; without a view, whether the three points lie on one line
unfoldable pub angle_of : Option View → Turn → Angle
angle_of (Some view) t = by_sign
    (area view (seen view.axis t.before.point) (seen view.axis t.corner.point) (seen view.axis t.after.point))
angle_of None t = if is_nowhere
    (cross_of (step t.before.point t.corner.point) (step t.corner.point t.after.point))
    then Straight else Reflex

-- a corner that doesn't turn
abbrev pub is_straight : Angle → Bool
is_straight Straight = true
is_straight Convex = false
is_straight Reflex = false
