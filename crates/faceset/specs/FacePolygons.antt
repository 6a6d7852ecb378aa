-- The polygon of a face by the points of its loops, and the triangles into which it is cut (IFC4 ADD2 TC1,
-- IfcIndexedPolygonalFaceWithVoids).
use Rattle.std.specs.Prelude.{◌≡◌, ℕ, List, [], ◌∷◌, ◌++◌, map, slice_index_or, Option, Some, None}
use Rattle.std.specs.List.{flat_map}
use Rattle.std.specs.Option.{option_map, option_and_then}
use Rattle.bim_model.specs.declared.geometry.Point.{Point}
use Rattle.ear_cut.specs.declared.ears.Ear.{Ear}
use Rattle.ear_cut.specs.Removal.{cut_of}
use Rattle.void_bridge.specs.Bridges.{points_at, joined_of}
use Rattle.faceset.specs.declared.polygons.LoopsCut.{LoopsCut}
use Rattle.faceset.specs.declared.polygons.LoopsCut.TheVariants as loops

-- the corners of a face: those of its outline, and then of its inner loops, one loop after another
abbrev pub face_points : List Point → List (List Point) → List Point
face_points outer inner = outer ++ flat_map (λ (loop : List Point). loop) inner

-- a triangle of the joined list, by the places that stand in the list
abbrev pub ear_by : List ℕ → Ear → Ear
ear_by list ear = record {
  a = slice_index_or list ear.a 0;
  b = slice_index_or list ear.b 0;
  c = slice_index_or list ear.c 0;
}

-- the triangles of a joined list: its polygon is cut as any other is
unfoldable pub ears_by : List Point → List (List Point) → List ℕ → Option (List Ear)
ears_by outer inner list = option_map (map (ear_by list)) (cut_of (points_at outer inner list))

-- The triangles of a face, by the places of their corners among all corners of the face: those of the outline or, if
-- there are inner loops, of the list to which bridges join them. None if the loops can't be joined, or the polygon not cut.
abbrev pub ears_of : List Point → List (List Point) → Option (List Ear)
ears_of outer [] = cut_of outer
ears_of outer (loop ∷ loops) = option_and_then (ears_by outer (loop ∷ loops)) (joined_of outer (loop ∷ loops))

-- there are inner loops, and they can't be joined to the outline
abbrev pub AreApart : List Point → List (List Point) → Type 0
AreApart outer [] = ⊥
AreApart outer (loop ∷ loops) = joined_of outer (loop ∷ loops) ≡ None

-- what comes of loops of points
abbrev pub IsLoopsCut : List Point → List (List Point) → LoopsCut → Type 0
IsLoopsCut outer inner (loops.Cut ears) = ears_of outer inner ≡ Some ears.items
IsLoopsCut outer inner loops.Stuck = (ears_of outer inner ≡ None) × (AreApart outer inner → ⊥)
IsLoopsCut outer inner loops.Apart = AreApart outer inner
