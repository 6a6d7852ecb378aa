-- The cutting of a polygon into triangles by the removal of one corner after another (ear clipping).
use Rattle.std.specs.Prelude.{ℕ, zero, suc, ◌+◌, ◌-◌, List, [], ◌∷◌, length, Bool, true, false, not, if◌then◌else◌, Option, Some, None, remove}
use Rattle.std.specs.List.{list_all}
use Rattle.std.specs.Option.{option_map, option_and_then}
use Rattle.bim_model.specs.declared.geometry.Point.{Point}
use Rattle.ear_cut.specs.declared.polygon_view.View.{View}
use Rattle.ear_cut.specs.declared.corners.Corner.{Corner}
use Rattle.ear_cut.specs.declared.corners.Turn.{Turn}
use Rattle.ear_cut.specs.declared.corners.Angle.{Angle}
use Rattle.ear_cut.specs.declared.corners.Angle.TheVariants.{Straight, Convex, Reflex}
use Rattle.ear_cut.specs.declared.ears.Ear.{Ear}
use Rattle.bim_model.specs.Polygons.{normal_of}
use Rattle.ear_cut.specs.PolygonViews.{seen, holds, view_of}
use Rattle.ear_cut.specs.Corners.{corners_from, turn_at, angle_of, is_straight}

-- the first of n numbers from i on that passes
abbrev pub first_from : (ℕ → Bool) → ℕ → ℕ → Option ℕ
first_from test i zero = None
first_from test i (suc n) = if test i then Some i else first_from test (i + 1) n

-- another corner is not in the closed triangle, or stands where one of its corners does
abbrev pub is_free : Option View → Turn → Corner → Bool
is_free (Some view) t other = not
    (holds view (seen view.axis t.before.point) (seen view.axis t.corner.point)
    (seen view.axis t.after.point) (seen view.axis other.point))
is_free None t other = true

-- a corner of positive area whose closed triangle holds no other corner that remains
abbrev pub is_ear_at : Option View → List Corner → Turn → Angle → Bool
is_ear_at view left t Convex = list_all (λ (other : Corner). is_free view t other) left
is_ear_at view left t Straight = false
is_ear_at view left t Reflex = false

-- the corner of a turn is an ear
abbrev pub is_ear : Option View → List Corner → Turn → Bool
is_ear view left t = is_ear_at view left t (angle_of view t)

-- the first place, or else the other
abbrev pub or_else : Option ℕ → Option ℕ → Option ℕ
or_else (Some i) other = Some i
or_else None other = other

-- the corner that goes: the first of zero area, else the first that is an ear
unfoldable pub choice : Option View → List Corner → Option ℕ
choice view left =
    or_else (first_from (λ i. is_straight (angle_of view (turn_at left i))) 0 (length left))
    (first_from (λ i. is_ear view left (turn_at left i)) 0 (length left))

-- the ear of a turn
abbrev pub ear_of : Turn → Ear
ear_of t = record { a = t.before.place; b = t.corner.place; c = t.after.place }

-- the area in the view is below zero
abbrev pub is_turned_over : Option View → Angle → Bool
is_turned_over (Some view) Reflex = true
is_turned_over (Some view) Straight = false
is_turned_over (Some view) Convex = false
is_turned_over None angle = false

-- the ears of n corners that are removed, one after another, and then the last triangle; none where the rule is stuck
unfoldable pub cut_by : Option View → ℕ → List Corner → Option (List Ear)
cut_by view zero left = if is_turned_over view (angle_of view (turn_at left 1))
    then None else Some (ear_of (turn_at left 1) ∷ [])
cut_by view (suc n) left =
    option_and_then (λ i. option_map (λ ears. ear_of (turn_at left i) ∷ ears)
    (cut_by view n (remove left i))) (choice view left)

-- the triangles of a polygon, by the places of their corners
unfoldable pub cut_of : List Point → Option (List Ear)
cut_of corners = cut_by (view_of (normal_of corners)) (length corners - 3) (corners_from 0 corners)
