-- The areas of triangles, as vectors.
use Rattle.std.specs.Prelude.{ℕ, List, [], ◌∷◌, slice_index_or}
use Rattle.bim_model.specs.declared.geometry.Point.{Point}
use Rattle.ear_cut.specs.declared.ears.Ear.{Ear}
use Rattle.exact_arith.specs.Space.{Vector, nowhere, plus}
use Rattle.bim_model.specs.Polygons.{normal_of}
use Rattle.ear_cut.specs.Corners.{nobody}

-- the point at a place
abbrev pub point_at : List Point → ℕ → Point
point_at points place = slice_index_or points place nobody.point

-- twice the area of the triangle, along its normal
abbrev pub area_of_ear : List Point → Ear → Vector
area_of_ear points e = normal_of (point_at points e.a ∷ point_at points e.b ∷ point_at points e.c ∷ [])

-- .. of all of them
abbrev pub area_of_ears : List Point → List Ear → Vector
area_of_ears points [] = nowhere
area_of_ears points (e ∷ es) = plus (area_of_ear points e) (area_of_ears points es)
