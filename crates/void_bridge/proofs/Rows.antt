-- Faces whose joined lists were worked out by hand, and one of another program, as the definitions give them.
use Rattle.std.proofs.Common.{◌≡◌, ℤ, pos, refl, List, [], ◌∷◌, Some, None}
use Rattle.bim_model.specs.declared.geometry.Point.{Point}
use Rattle.ear_cut.specs.PolygonViews.{area}
use Rattle.ear_cut.specs.Corners.{turn_at}
use Rattle.void_bridge.specs.HoleLoops.{oriented}
use Rattle.void_bridge.specs.LoopEdges.{collide}
use Rattle.void_bridge.specs.Bridges.{leads_inside, is_free, first_bridge, joined_at, join_by, joined_of}

abbrev point : ℤ → ℤ → Point
point x y = record { x = x; y = y; z = pos 0 }

-- a square, and one in its middle that turns as it does
abbrev square : List Point
square = point (pos 0) (pos 0) ∷ point (pos 300) (pos 0) ∷ point (pos 300) (pos 300) ∷ point (pos 0) (pos 300) ∷ []

abbrev hole : List Point
hole = point (pos 100) (pos 100) ∷ point (pos 200) (pos 100) ∷ point (pos 200) (pos 200) ∷ point (pos 100) (pos 200) ∷ []

square_in_square : joined_of square (hole ∷ []) ≡ Some (0 ∷ 4 ∷ 7 ∷ 6 ∷ 5 ∷ 4 ∷ 0 ∷ 1 ∷ 2 ∷ 3 ∷ [])
unfolding area turn_at oriented collide leads_inside is_free first_bridge joined_at join_by joined_of
square_in_square = refl

-- the square again as its own hole: the diagonal is the first free bridge
square_twice : joined_of square (square ∷ []) ≡ Some (0 ∷ 6 ∷ 5 ∷ 4 ∷ 7 ∷ 6 ∷ 0 ∷ 1 ∷ 2 ∷ 3 ∷ [])
unfolding area turn_at oriented collide leads_inside is_free first_bridge joined_at join_by joined_of
square_twice = refl

-- a triangle as its own hole: each bridge is an edge
abbrev triangle : List Point
triangle = point (pos 0) (pos 0) ∷ point (pos 1) (pos 0) ∷ point (pos 0) (pos 1) ∷ []

triangle_twice : joined_of triangle (triangle ∷ []) ≡ None
unfolding area turn_at oriented collide leads_inside is_free first_bridge joined_at join_by joined_of
triangle_twice = refl

-- no area, so no view
no_area : joined_of (point (pos 0) (pos 0) ∷ point (pos 1) (pos 0) ∷ point (pos 2) (pos 0) ∷ []) [] ≡ None
unfolding joined_of
no_area = refl

-- a hole without area is gone round as it is
flat_hole : joined_of square ((point (pos 100) (pos 100) ∷ point (pos 200) (pos 100) ∷ point (pos 150) (pos 100) ∷ []) ∷ []) ≡ Some (0 ∷ 4 ∷ 5 ∷ 6 ∷ 4 ∷ 0 ∷ 1 ∷ 2 ∷ 3 ∷ [])
unfolding area turn_at oriented collide leads_inside is_free first_bridge joined_at join_by joined_of
flat_hole = refl
