-- The edges of loops in a view, and where two of them meet.
use Rattle.std.specs.Prelude.{ℤ, pos, int_lt, int_le, Bool, ◌&&◌, ◌||◌, not, List, [], ◌∷◌, ◌++◌}
use Rattle.std.specs.Ordering.{int_eq}
use Rattle.std.specs.List.{flat_map}
use Rattle.ear_cut.specs.declared.polygon_view.View.{View}
use Rattle.ear_cut.specs.declared.corners.Corner.{Corner}
use Rattle.ear_cut.specs.PolygonViews.{Spot, seen, area, same_spot}

-- a segment of the view, which may be a point
pub record Segment : Type 0 where
  pub a : Spot
  pub b : Spot

-- the segment from one spot to another
abbrev pub segment : Spot → Spot → Segment
segment a b = record { a = a; b = b }

-- a corner as the view shows it
abbrev pub spot_of : View → Corner → Spot
spot_of view c = seen view.axis c.point

-- the segments from each corner of a list to the next one
abbrev pub edges_along : View → List Corner → List Segment
edges_along view [] = []
edges_along view (c ∷ []) = []
edges_along view (c ∷ d ∷ cs) = segment (spot_of view c) (spot_of view d) ∷ edges_along view (d ∷ cs)

-- .. and from the last to the first
abbrev pub edges_round : View → List Corner → List Segment
edges_round view [] = []
edges_round view (c ∷ cs) = edges_along view (c ∷ cs ++ c ∷ [])

-- the edges of the current list and of the loops that are left
abbrev pub all_edges : View → List Corner → List (List Corner) → List Segment
all_edges view current loops = edges_round view current ++ flat_map (edges_round view) loops

-- x lies between a and b or is one of them
abbrev pub is_between : ℤ → ℤ → ℤ → Bool
is_between a b x = int_le a x && int_le x b || (int_le b x && int_le x a)

-- p is an end of the segment
abbrev pub is_end : Segment → Spot → Bool
is_end s p = same_spot p s.a || same_spot p s.b

-- p lies on the segment
abbrev pub is_on : View → Segment → Spot → Bool
is_on view s p = int_eq (area view s.a s.b p) (pos 0)
    && (is_between s.a.u s.b.u p.u && is_between s.a.v s.b.v p.v)

-- p lies on the segment and is no end of it
abbrev pub is_inside : View → Segment → Spot → Bool
is_inside view s p = is_on view s p && not (is_end s p)

-- one number is below zero, the other above
abbrev pub are_opposite : ℤ → ℤ → Bool
are_opposite x y = int_lt x (pos 0) && int_lt (pos 0) y || (int_lt y (pos 0) && int_lt (pos 0) x)

-- the ends of each segment lie on both sides of the other
abbrev pub cross : View → Segment → Segment → Bool
cross view s t = are_opposite (area view s.a s.b t.a) (area view s.a s.b t.b)
    && are_opposite (area view t.a t.b s.a) (area view t.a t.b s.b)

-- two segments meet in a point that is not an end of both: they cross, an end of one lies inside the other, or they
-- have the same ends
unfoldable pub collide : View → Segment → Segment → Bool
collide view s t = cross view s t
    || (is_inside view t s.a || (is_inside view t s.b || (is_inside view s t.a || (is_inside view s t.b
    || (is_end t s.a && is_end t s.b)))))
