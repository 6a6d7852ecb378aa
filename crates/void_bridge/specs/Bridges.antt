-- The joining of a face's loops to one list by bridges.
use Rattle.std.specs.Prelude.{ℕ, zero, suc, ◌≡◌, ◌<◌, ◌+◌, pos, int_lt, Bool, ◌&&◌, ◌||◌, not, if◌then◌else◌, List, [], ◌∷◌, ◌++◌, length, slice_index_or, take, drop, map, remove, Option, Some, None}
use Rattle.std.specs.List.{list_any, flat_map}
use Rattle.std.specs.Option.{option_map, option_and_then}
use Rattle.exact_arith.specs.Space.{plus}
use Rattle.bim_model.specs.declared.geometry.Point.{Point}
use Rattle.bim_model.specs.Polygons.{normal_of}
use Rattle.ear_cut.specs.declared.polygon_view.View.{View}
use Rattle.ear_cut.specs.declared.corners.Corner.{Corner}
use Rattle.ear_cut.specs.declared.corners.Turn.{Turn}
use Rattle.ear_cut.specs.PolygonViews.{Spot, area, same_spot, view_of}
use Rattle.ear_cut.specs.Corners.{corners_from, nobody, turn_at}
use Rattle.ear_cut.specs.Removal.{first_from}
use Rattle.ear_cut.specs.Areas.{point_at}
use Rattle.void_bridge.specs.declared.bridges.Bridge.{Bridge}
use Rattle.void_bridge.specs.HoleLoops.{loops_from, oriented, normals_of}
use Rattle.void_bridge.specs.LoopEdges.{Segment, segment, spot_of, all_edges, collide}

-- the way from b to q is strictly left of the way from a to b, with the sign of the view
abbrev pub is_left : View → Spot → Spot → Spot → Bool
is_left view a b q = int_lt (pos 0) (area view a b q)

-- the way from b to q lies within the angle at b: left of both edges if the corner turns left, else of one at least
unfoldable pub leads_inside : View → Spot → Spot → Spot → Spot → Bool
leads_inside view a b c q = if is_left view a b c then is_left view a b q && is_left view b c q
    else (is_left view a b q || is_left view b c q)

-- the bridge from the corner of a turn to another corner
abbrev pub bridge_between : View → Turn → Corner → Segment
bridge_between view t c = segment (spot_of view t.corner) (spot_of view c)

-- a bridge is free: its ends differ, it leads into the angle at its corner, and it collides with none of the edges
unfoldable pub is_free : View → List Segment → Turn → Corner → Bool
is_free view edges t c = not (same_spot (spot_of view t.corner) (spot_of view c))
    && (leads_inside view
    (spot_of view t.before) (spot_of view t.corner) (spot_of view t.after) (spot_of view c)
    && not (list_any (collide view (bridge_between view t c)) edges))

-- what is found, or else what is found otherwise
abbrev pub or_found : {A : Type 0} → Option A → Option A → Option A
or_found (Some a) other = Some a
or_found None other = other

-- what is found for the first of n numbers from i on for which something is
abbrev pub first_found : {A : Type 0} → (ℕ → Option A) → ℕ → ℕ → Option A
first_found find i zero = None
first_found find i (suc n) = or_found (find i) (first_found find (i + 1) n)

-- the bridge to the first corner of the k-th loop to which there is a free one from the i-th corner of the list
abbrev pub bridge_from : View → List Segment → List Corner → List Corner → ℕ → ℕ → Option Bridge
bridge_from view edges current loop k i = option_map (λ j. record { hole = k; from = i; to = j })
    (first_from (λ j. is_free view edges (turn_at current i) (slice_index_or loop j nobody)) 0 (length loop))

-- the first bridge: to the first loop to which there is a free one, from the first corner of the list
abbrev pub bridge_by : View → List Segment → List Corner → List (List Corner) → Option Bridge
bridge_by view edges current loops = first_found
    (λ k. first_found (bridge_from view edges current (slice_index_or loops k []) k) 0 (length current))
    0 (length loops)

-- .. that is free of all edges of the current list and of the loops that are left
unfoldable pub first_bridge : View → List Corner → List (List Corner) → Option Bridge
first_bridge view current loops = bridge_by view (all_edges view current loops) current loops

-- the indexes of a bridge to the k-th loop are those of corners
pub record IsBridge (current : List Corner) (loop : List Corner) (k : ℕ) (b : Bridge) : Type 0 where
  pub hole : b.hole ≡ k
  pub from : b.from < length current
  pub to : b.to < length loop

-- .. and it is one of the loops
pub record IsBridgeIn (current : List Corner) (loops : List (List Corner)) (b : Bridge) : Type 0 where
  pub hole : b.hole < length loops
  pub from : b.from < length current
  pub to : b.to < length (slice_index_or loops b.hole [])

-- the list with a loop put in behind its i-th corner: from the loop's j-th corner round to it again, and the i-th again
unfoldable pub joined_at : List Corner → ℕ → List Corner → ℕ → List Corner
joined_at current i loop j = take (i + 1) current ++ drop j loop ++ take j loop
    ++ slice_index_or loop j nobody ∷ [] ++ slice_index_or current i nobody ∷ [] ++ drop (i + 1) current

-- the list with the loop of a bridge put in
abbrev pub joined_by : List Corner → List (List Corner) → Bridge → List Corner
joined_by current loops b = joined_at current b.from (slice_index_or loops b.hole []) b.to

-- the list after n bridges, each the first that is free; none if there is none
unfoldable pub join_by : View → ℕ → List Corner → List (List Corner) → Option (List Corner)
join_by view zero current loops = Some current
join_by view (suc n) current loops =
    option_and_then (λ b. join_by view n (joined_by current loops b) (remove loops b.hole))
    (first_bridge view current loops)

-- the loops of a face joined to one list of corners in a view
abbrev pub joined_in : View → List Point → List (List Point) → Option (List Corner)
joined_in view outer inner = join_by view (length inner) (corners_from 0 outer)
    (map (oriented view) (loops_from (length outer) inner))

-- the places of the joined list; none if the outer loop has no view, or if there is no bridge for a loop
unfoldable pub joined_of : List Point → List (List Point) → Option (List ℕ)
joined_of outer inner = option_and_then
    (λ view. option_map (λ corners. map (λ (c : Corner). c.place) corners) (joined_in view outer inner))
    (view_of (normal_of outer))

-- the points at places of a face's loops
abbrev pub points_at : List Point → List (List Point) → List ℕ → List Point
points_at outer inner places = map (point_at (outer ++ flat_map (λ (loop : List Point). loop) inner)) places

-- the area of a list of places is that of the outer loop and of the inner ones, as they are joined, together
pub record IsAreaSum (outer : List Point) (inner : List (List Point)) (places : List ℕ) : Type 0 where
  pub view : View
  pub view_is : view_of (normal_of outer) ≡ Some view
  pub sum : normal_of (points_at outer inner places)
      ≡ plus (normal_of outer) (normals_of (map (oriented view) (loops_from (length outer) inner)))
