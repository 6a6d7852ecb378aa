-- The numbers of points and the faces that face sets name (IFC4 ADD2 TC1, IfcTriangulatedFaceSet, IfcPolygonalFaceSet, PnIndex, Faces).
use Rattle.std.specs.Prelude.{◌≡◌, ℕ, ◌⊎◌, true, List, Option, Some, All, MatchOption}
use Rattle.std.specs.Bool.{⊤}
use Rattle.std.specs.List.{slice_get}
use Rattle.p21_values.specs.declared.value.Value21.{Value21}
use Rattle.p21_values.specs.declared.value.Instance.{Instance}
use Rattle.p21_values.specs.Values.{items_of, is_absent, reference_of}
use Rattle.p21_values.specs.InstanceLookup.{look}
use Rattle.p21_values.specs.Attributes.{listed}
use Rattle.faceset.specs.Indexes.{PointsAt}
use Rattle.faceset.specs.FaceSets.{is_polygonal, is_face, numbering_place}

-- the attribute with the numbers of the points is a list, or is left out
abbrev pub HasNumbering : Instance → Type 0
HasNumbering set = MatchOption (slice_get set.values (numbering_place (is_polygonal set))) ⊤
    (λ v. (is_absent v ≡ true) ⊎ ((numbers : List Value21) × (items_of v ≡ Some numbers)))

-- a value names one of so many points
abbrev pub NamesOne : ℕ → Value21 → Type 0
NamesOne count v = (k : ℕ) × PointsAt count v k

-- the numbers each name one of so many points, where there are numbers
abbrev pub NamesPoints : ℕ → Option (List Value21) → Type 0
NamesPoints count numbers = MatchOption numbers ⊤ (All (NamesOne count))

-- a value refers to a face, with voids or without
pub record LeadsToFace (world : List Instance) (v : Value21) : Type 0 where
  pub to : ℕ
  pub refers : reference_of v ≡ Some to
  pub face : Instance
  pub found : look world to ≡ Some face
  pub kind : is_face face ≡ true

-- the faces of a polygonal set are faces
abbrev pub NamesFaces : List Instance → Instance → Type 0
NamesFaces world set = is_polygonal set ≡ true → All (LeadsToFace world) (listed set 2)
