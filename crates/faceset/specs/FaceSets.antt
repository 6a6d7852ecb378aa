-- Face sets by their values (IFC4 ADD2 TC1, IfcTriangulatedFaceSet, IfcPolygonalFaceSet, IfcIndexedPolygonalFace,
-- IfcIndexedPolygonalFaceWithVoids).
use Rattle.std.specs.Prelude.{◌≡◌, ℕ, ◌<◌, ◌≤◌, ◌+◌, ◌-◌, ◌⊎◌, Bool, true, ◌||◌, if◌then◌else◌, List, [], ◌∷◌, ◌++◌, length, map, filter_map, sum_by, Option, Some, None, Any, All, Contains, option_and_then, MatchOption}
use Rattle.std.specs.Bool.{MatchBool}
use Rattle.std.specs.List.{slice_get, flat_map, AllZip}
use Rattle.p21_values.specs.declared.value.Value21.{Value21}
use Rattle.p21_values.specs.declared.value.Instance.{Instance}
use Rattle.bim_model.specs.declared.geometry.Point.{Point}
use Rattle.bim_model.specs.declared.geometry.Triangle.{Triangle}
use Rattle.ifc_instances.specs.declared.entity.Entity.TheVariants.{TriangulatedFaceSet, PolygonalFaceSet, Face, FaceWithVoids}
use Rattle.p21_values.specs.InstanceLookup.{look}
use Rattle.ifc_instances.specs.EntityLookup.{is_a}
use Rattle.p21_values.specs.Values.{reference_of, items_of}
use Rattle.p21_values.specs.Attributes.{items_in, listed, target_at, led_to}
use Rattle.ear_cut.specs.declared.ears.Ear.{Ear}
use Rattle.ear_cut.specs.Areas.{point_at}
use Rattle.faceset.specs.declared.loop_corners.TheConstants.{MOST_CORNERS}
use Rattle.faceset.specs.FacePolygons.{face_points, ears_of, AreApart}
use Rattle.faceset.specs.Indexes.{PointsAt, PointsNowhere}

-- What a set says.

-- the list of points that a set refers to, by its first attribute
unfoldable pub points_of : List Instance → Instance → Option Instance
points_of world set = target_at world set 0

-- the first list of an instance, where there is one
abbrev pub listed_in : Option Instance → List Value21
listed_in None = []
listed_in (Some i) = listed i 0

-- the points of a set, as they are spelled
abbrev pub spelled_points : List Instance → Instance → List Value21
spelled_points world set = listed_in (points_of world set)

-- a polygonal set
abbrev pub is_polygonal : Instance → Bool
is_polygonal set = is_a PolygonalFaceSet set

-- a face set of either kind
abbrev pub is_set : Instance → Bool
is_set i = is_a TriangulatedFaceSet i || is_polygonal i

-- a face, with voids or without
abbrev pub is_face : Instance → Bool
is_face i = is_a Face i || is_a FaceWithVoids i

-- the attribute with the numbers of the points (PnIndex)
abbrev pub numbering_place : Bool → ℕ
numbering_place polygonal = if polygonal then 3 else 4

-- The numbers of the points that the set's indexes name, where it has them (PnIndex): an index then counts these, and they count the points.
unfoldable pub numbering : Instance → Option (List Value21)
numbering set = option_and_then items_of (slice_get set.values (numbering_place (is_polygonal set)))

-- the triangles of a triangulated set, as they are spelled: three indexes each
abbrev pub spelled_triangles : Instance → List Value21
spelled_triangles set = listed set 3

-- the numbers of the faces of a polygonal set, in their order
unfoldable pub face_ids : Instance → List ℕ
face_ids set = filter_map reference_of (listed set 2)

-- its faces; one that is listed twice stands twice
unfoldable pub faces_of : List Instance → Instance → List Instance
faces_of world set = led_to world (listed set 2)

-- the indexes of the corners of a face, in their order
abbrev pub outline : Instance → List Value21
outline face = listed face 0

-- the inner loops of a face, as they are spelled: those of its voids (InnerCoordIndices), if it has any
abbrev pub spelled_loops : Instance → List Value21
spelled_loops face = if is_a FaceWithVoids face then listed face 1 else []

-- .. each by the indexes of its corners
abbrev pub inner_loops : Instance → List (List Value21)
inner_loops face = map items_in (spelled_loops face)

-- the indexes of all corners of a face: of its outline, and then of its inner loops, one loop after another
abbrev pub all_corners : Instance → List Value21
all_corners face = outline face ++ flat_map (λ (loop : List Value21). loop) (inner_loops face)

-- the indexes of a set, triangle by triangle or face by face
abbrev pub rows_of : List Instance → Instance → List (List Value21)
rows_of world set = if is_polygonal set
    then map all_corners (faces_of world set) else map items_in (spelled_triangles set)

-- Which corner an index names.

-- an index names that one of so many points, counted from 0
abbrev pub NamesPoint : Option (List Value21) → ℕ → Value21 → ℕ → Type 0
NamesPoint None count v place = PointsAt count v place
NamesPoint (Some numbers) count v place =
    (at : ℕ) × PointsAt (length numbers) v at × (number : Value21) × (slice_get numbers at ≡ Some number)
    × PointsAt count number place

-- how many things the indexes of a set count
abbrev pub counted_by : Option (List Value21) → ℕ → ℕ
counted_by None count = count
counted_by (Some numbers) count = length numbers

-- a number of a point names none of so many points
abbrev pub HasBadNumber : Option (List Value21) → ℕ → Type 0
HasBadNumber numbers count = MatchOption numbers ⊥ (Any (PointsNowhere count))

-- an index of the set or of its faces counts nothing, or a number in its PnIndex names no point
abbrev pub HasBadIndex : List Instance → Instance → Type 0
HasBadIndex world set =
    HasBadNumber (numbering set) (length (spelled_points world set))
    ⊎ Any (Any (PointsNowhere (counted_by (numbering set) (length (spelled_points world set)))))
    (rows_of world set)

-- an index names none of so many points: it counts nothing, or a number that names no point
abbrev pub IsMisnamed : Option (List Value21) → ℕ → Value21 → Type 0
IsMisnamed None count v = PointsNowhere count v
IsMisnamed (Some numbers) count v =
    PointsNowhere (length numbers) v
    ⊎ ((at : ℕ) × PointsAt (length numbers) v at × (number : Value21) × (slice_get numbers at ≡ Some number)
    × PointsNowhere count number)

-- a value is the index of that corner among the points
pub record IsCorner (numbers : Option (List Value21)) (points : List Point) (v : Value21)
    (corner : Point) : Type 0 where
  pub place : ℕ
  pub names : NamesPoint numbers (length points) v place
  pub there : slice_get points place ≡ Some corner

-- The triangles of a triangulated set.

-- a row of three indexes is that triangle
pub record IsTriangle (numbers : Option (List Value21)) (points : List Point) (row : Value21)
    (t : Triangle) : Type 0 where
  pub a : Value21
  pub b : Value21
  pub c : Value21
  pub three : items_of row ≡ Some (a ∷ b ∷ c ∷ [])
  pub first : IsCorner numbers points a t.a
  pub second : IsCorner numbers points b t.b
  pub third : IsCorner numbers points c t.c

-- the rows are those triangles, one after another
abbrev pub AreTriangles : Option (List Value21) → List Point → List Value21 → List Triangle → Type 0
AreTriangles numbers points = AllZip (IsTriangle numbers points)

-- The triangles of a polygonal set.

-- the indexes are those corners, one after another
abbrev pub AreCorners : Option (List Value21) → List Point → List Value21 → List Point → Type 0
AreCorners numbers points = AllZip (IsCorner numbers points)

-- the triangle of an ear by its corners
abbrev pub triangle_of : List Point → Ear → Triangle
triangle_of corners ear = record {
  a = point_at corners ear.a;
  b = point_at corners ear.b;
  c = point_at corners ear.c;
}

-- the most corners of a face
abbrev pub most_corners : ℕ
most_corners = MOST_CORNERS

-- each loop of a face has three corners or more, and all together not too many
pub record IsOutlined (face : Instance) : Type 0 where
  pub outer : 2 < length (outline face)
  pub inner : All (λ (loop : List Value21). 2 < length loop) (inner_loops face)
  pub few : length (all_corners face) ≤ most_corners

-- the corners of a face, loop by loop
pub record AreLoopsOf (numbers : Option (List Value21)) (points : List Point) (face : Instance)
    (outer : List Point) (inner : List (List Point)) : Type 0 where
  pub outer_are : AreCorners numbers points (outline face) outer
  pub inner_are : AllZip (AreCorners numbers points) (inner_loops face) inner

-- a face cut into triangles
pub record IsCut (numbers : Option (List Value21)) (points : List Point) (face : Instance)
    (triangles : List Triangle) : Type 0 where
  pub outlined : IsOutlined face
  pub outer : List Point
  pub inner : List (List Point)
  pub are_loops : AreLoopsOf numbers points face outer inner
  pub ears : List Ear
  pub cut : ears_of outer inner ≡ Some ears
  pub are_triangles : triangles ≡ map (triangle_of (face_points outer inner)) ears

-- a face that can't be cut: its loops can't be joined, or their polygon can't be cut
pub record IsStuck (numbers : Option (List Value21)) (points : List Point) (face : Instance) : Type 0 where
  pub outlined : IsOutlined face
  pub outer : List Point
  pub inner : List (List Point)
  pub are_loops : AreLoopsOf numbers points face outer inner
  pub stuck : ears_of outer inner ≡ None

-- a face with voids whose loops can't be joined
pub record IsUnbridged (numbers : Option (List Value21)) (points : List Point)
    (face : Instance) : Type 0 where
  pub outlined : IsOutlined face
  pub outer : List Point
  pub inner : List (List Point)
  pub are_loops : AreLoopsOf numbers points face outer inner
  pub apart : AreApart outer inner

-- each of these gives triangles, and those are all of them, in their order
abbrev pub Joined : {X : Type 0} → (X → List Triangle → Type 0) → List X → List Triangle → Type 0
Joined Gives [] triangles = triangles ≡ []
Joined Gives (x ∷ xs) triangles =
    (first rest : List Triangle) × Gives x first × Joined Gives xs rest × (triangles ≡ first ++ rest)

-- Of a set of either kind, whose list of points these are.

-- its triangles in its own coordinates, in the order of its rows or faces
abbrev pub SetTriangles : List Instance → List Point → Instance → List Triangle → Type 0
SetTriangles world points set triangles =
    MatchBool (is_polygonal set)
    (Joined (IsCut (numbering set) points) (faces_of world set) triangles)
    (AreTriangles (numbering set) points (spelled_triangles set) triangles)

-- what an inner loop adds to the triangles of a face: its bridge stands in the polygon there and back
abbrev pub loop_count : List Value21 → ℕ
loop_count loop = length loop + 2

-- a polygon of n corners gives n - 2 triangles
abbrev pub face_count : Instance → ℕ
face_count face = (length (outline face) - 2) + sum_by loop_count (inner_loops face)

-- how many triangles a set has
abbrev pub triangle_count : List Instance → Instance → ℕ
triangle_count world set = if is_polygonal set
    then sum_by face_count (faces_of world set) else length (spelled_triangles set)

-- the face of that number is one of the set's, and something holds of it by the set's points
pub record HasFace (Is : Option (List Value21) → List Point → Instance → Type 0) (world : List Instance)
    (points : List Point) (set : Instance) (id : ℕ) : Type 0 where
  pub polygonal : is_polygonal set ≡ true
  pub listed : Contains (face_ids set) id
  pub face : Instance
  pub found : look world id ≡ Some face
  pub such : Is (numbering set) points face

-- .. and can't be cut
abbrev pub HasStuck : List Instance → List Point → Instance → ℕ → Type 0
HasStuck = HasFace IsStuck

-- .. because its loops can't be joined
abbrev pub HasUnbridged : List Instance → List Point → Instance → ℕ → Type 0
HasUnbridged = HasFace IsUnbridged

-- What the earlier checks leave of a set.

-- a row of exactly three values
abbrev pub HasThree : Value21 → Type 0
HasThree row = (a b c : Value21) × (items_of row ≡ Some (a ∷ b ∷ c ∷ []))

-- each row or face has as many indexes as it may have, and each of them names a point
pub record IsSound (world : List Instance) (points : List Point) (set : Instance) : Type 0 where
  pub rows : MatchBool (is_polygonal set) (All IsOutlined (faces_of world set))
      (All HasThree (spelled_triangles set))
  pub indexed : HasBadIndex world set → ⊥
  pub count : length points ≡ length (spelled_points world set)
