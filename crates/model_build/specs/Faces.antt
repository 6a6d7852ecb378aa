-- The faces and the sets of a file (IFC4 ADD2 TC1, IfcIndexedPolygonalFace, IfcIndexedPolygonalFaceWithVoids, IfcTriangulatedFaceSet,
-- IfcPolygonalFaceSet).
use Rattle.std.specs.Prelude.{◌≡◌, ℕ, ◌<◌, true, List, Option, length}
use Rattle.bim_model.specs.declared.upload.Mode.{Mode}
use Rattle.bim_model.specs.declared.geometry.Point.{Point}
use Rattle.p21_values.specs.declared.value.Value21.{Value21}
use Rattle.p21_values.specs.declared.value.Instance.{Instance}
use Rattle.ifc_schema.specs.Used.{Used}
use Rattle.ifc_units.specs.declared.scale.Scale.{Scale}
use Rattle.faceset.specs.FaceSets.{is_set, is_face, all_corners, most_corners, IsStuck, IsUnbridged, HasFace}
use Rattle.ifc_elements.specs.Finding.{Finds}
use Rattle.ifc_elements.specs.Surfaces.{SetPoints}

-- a face set that is used
abbrev pub IsUsedSet : List Instance → ℕ → Type 0
IsUsedSet world id = Used world id × Finds world id (λ i. is_set i ≡ true)

-- a face whose loops have too many corners together
abbrev pub HasManyCorners : Instance → Type 0
HasManyCorners i = (is_face i ≡ true) × (most_corners < length (all_corners i))

-- the set of that number has that face, of which something holds by the set's points
abbrev pub ShowsFace : (Option (List Value21) → List Point → Instance → Type 0) → List Instance → Scale
    → Mode → ℕ → ℕ → Type 0
ShowsFace Is world scale mode set id =
    Finds world set (λ s. (points : List Point) × SetPoints world scale mode s points
    × HasFace Is world points s id)

-- it holds of a face of a set that is used
abbrev pub IsFaceOfUsed : (Option (List Value21) → List Point → Instance → Type 0) → List Instance → Scale
    → Mode → ℕ → Type 0
IsFaceOfUsed Is world scale mode id = (set : ℕ) × IsUsedSet world set × ShowsFace Is world scale mode set id

-- a face of a set that is used can't be cut
abbrev pub IsStuckFace : List Instance → Scale → Mode → ℕ → Type 0
IsStuckFace = IsFaceOfUsed IsStuck

-- .. because its loops can't be joined
abbrev pub IsUnbridgedFace : List Instance → Scale → Mode → ℕ → Type 0
IsUnbridgedFace = IsFaceOfUsed IsUnbridged
