-- The loops of a face: their corners with their places, and the way round in which the inner ones are gone.
use Rattle.std.specs.Prelude.{ℕ, ◌≤◌, ◌+◌, ℤ, pos, int_lt, List, [], ◌∷◌, ◌++◌, length, map, take, drop, reverse, All, if◌then◌else◌}
use Rattle.bim_model.specs.declared.geometry.Point.{Point}
use Rattle.bim_model.specs.Points.{IsGridPoint}
use Rattle.bim_model.specs.Polygons.{normal_of}
use Rattle.exact_arith.specs.Space.{Vector, nowhere, plus}
use Rattle.ear_cut.specs.declared.polygon_view.View.{View}
use Rattle.ear_cut.specs.declared.corners.Corner.{Corner}
use Rattle.ear_cut.specs.PolygonViews.{component, signed}
use Rattle.ear_cut.specs.Corners.{corners_from}

-- loops of corners with their places, counted from n on through one loop after another
abbrev pub loops_from : ℕ → List (List Point) → List (List Corner)
loops_from n [] = []
loops_from n (loop ∷ loops) = corners_from n loop ∷ loops_from (n + length loop) loops

-- the points of corners
abbrev pub points_of : List Corner → List Point
points_of loop = map (λ (c : Corner). c.point) loop

-- how many corners the loops have in all
abbrev pub corner_count : List (List Point) → ℕ
corner_count [] = 0
corner_count (loop ∷ loops) = length loop + corner_count loops

-- a loop has three corners or more, at points of the grid
pub record IsLoop (loop : List Point) : Type 0 where
  pub three : 3 ≤ length loop
  pub in_grid : All IsGridPoint loop

-- .. each of them
abbrev pub AreLoops : List (List Point) → Type 0
AreLoops loops = All IsLoop loops

-- twice a loop's area in the view: above zero if it turns as the outer loop does
abbrev pub area_of : View → List Point → ℤ
area_of view loop = signed view.reversed (component view.axis (normal_of loop))

-- the loop gone round the other way from the same first corner
abbrev pub backwards : List Corner → List Corner
backwards loop = take 1 loop ++ reverse (drop 1 loop)

-- an inner loop as it is joined: it doesn't turn as the outer loop does
unfoldable pub oriented : View → List Corner → List Corner
oriented view loop = if int_lt (pos 0) (area_of view (points_of loop)) then backwards loop else loop

-- the sum of the loops' areas, each twice and along its normal
abbrev pub normals_of : List (List Corner) → Vector
normals_of [] = nowhere
normals_of (loop ∷ loops) = plus (normal_of (points_of loop)) (normals_of loops)
