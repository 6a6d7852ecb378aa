-- Triangles by the places of their corners in a list of points (IFC4 ADD2 TC1, IfcTriangulatedFaceSet, IfcPolygonalFaceSet).
use Rattle.std.specs.Prelude.{◌≡◌, ℕ, List, [], ◌∷◌, ◌++◌, map, slice_index_or, Option, Some, None}
use Rattle.std.specs.List.{AllZip}
use Rattle.bim_model.specs.declared.geometry.Point.{Point}
use Rattle.bim_model.specs.declared.geometry.Triangle.{Triangle}
use Rattle.p21_values.specs.declared.value.Value21.{Value21}
use Rattle.p21_values.specs.Values.{items_of}
use Rattle.ear_cut.specs.declared.ears.Ear.{Ear}
use Rattle.ear_cut.specs.Areas.{point_at}
use Rattle.faceset.specs.Indexes.{PointsAt}
use Rattle.faceset.specs.FaceSets.{NamesPoint}
use Rattle.walk_rows.specs.declared.triangle_rows.Row.{Row}

-- the triangle whose corners stand there
abbrev pub triangle_at : List Point → Row → Triangle
triangle_at points row = record {
  a = point_at points row.a;
  b = point_at points row.b;
  c = point_at points row.c;
}

-- the triangles of rows
abbrev pub triangles_at : List Point → List Row → List Triangle
triangles_at points rows = map (triangle_at points) rows

-- Which points indexes name.

-- the places that the numbers of so many points name, where there are numbers (PnIndex)
abbrev pub AreNumbers : ℕ → Option (List Value21) → Option (List ℕ) → Type 0
AreNumbers count None None = Unit {0}
AreNumbers count None (Some places) = ⊥
AreNumbers count (Some numbers) None = ⊥
AreNumbers count (Some numbers) (Some places) = AllZip (PointsAt count) numbers places

-- a value is three indexes, which name these of so many points
pub record IsRowOf (numbers : Option (List Value21)) (count : ℕ) (v : Value21) (row : Row) : Type 0 where
  pub a : Value21
  pub b : Value21
  pub c : Value21
  pub three : items_of v ≡ Some (a ∷ b ∷ c ∷ [])
  pub first : NamesPoint numbers count a row.a
  pub second : NamesPoint numbers count b row.b
  pub third : NamesPoint numbers count c row.c

-- Of faces.

-- the place that stands there; beyond all points where none does
abbrev pub place_at : List ℕ → ℕ → ℕ
place_at places at = slice_index_or places at 4294967295

-- the row of an ear of a polygon whose corners are the points at these places
abbrev pub row_at : List ℕ → Ear → Row
row_at places ear = record {
  a = place_at places ear.a;
  b = place_at places ear.b;
  c = place_at places ear.c;
}

-- what was added are the rows of such triangles
abbrev pub AddsRows : List Point → (List Triangle → Type 0) → List Row → List Row → Type 0
AddsRows points Gives old new = (more : List Row) × Gives (triangles_at points more) × (new ≡ old ++ more)
