-- Where each index of a set names a point, none counts nothing.
use Rattle.std.proofs.Common.{◌≡◌, ℕ, zero, suc, ◌⊎◌, inl, inr, Bool, true, false, List, [], ◌∷◌, length, map, Option, Some, None, refl, sym, subst, arith}
use Rattle.std.specs.List.{All, AllZip, Any}
use Rattle.std.specs.Option.{unwrap_or}
use Rattle.bim_model.specs.declared.geometry.Point.{Point}
use Rattle.bim_model.specs.declared.geometry.Triangle.{Triangle}
use Rattle.p21_values.specs.declared.value.Value21.{Value21}
use Rattle.p21_values.specs.declared.value.Instance.{Instance}
use Rattle.p21_values.specs.Attributes.{items_in}
use Rattle.faceset.specs.Indexes.{PointsAt, PointsNowhere}
use Rattle.faceset.specs.FaceSets.{IsCorner, IsTriangle, AreTriangles, AreCorners, IsCut, Joined, SetTriangles, HasBadNumber, HasBadIndex, counted_by, numbering, spelled_points, is_polygonal, rows_of, all_corners, faces_of, spelled_triangles}
use Rattle.faceset.specs.FacePolygons.{face_points}
use Rattle.faceset.proofs.Loops.{all_cornered}
use Rattle.walk_rows.specs.SetRows.{NamesOne, NamesPoints}

-- the first of a list, or a later one
first_or : {X : Type 0} (P : X → Type 0) (x : X) (xs : List X) → Any P (x ∷ xs) → P x ⊎ Any P xs
first_or P x xs (zero, y, lt, e, p) = inl (subst P (sym e) p)
first_or P x xs (suc k, y, lt, e, p) = inr (k, y, omega (arith, lt), e, p)

no_first : {X : Type 0} (P : X → Type 0) → Any P [] → ⊥
no_first P (k, y, lt, e, p) = omega (arith, lt)

-- numbers that each name one
pub numbers_good : (count : ℕ) (numbers : Option (List Value21)) → NamesPoints count numbers → HasBadNumber numbers count → ⊥
numbers_good count None n h = h
numbers_good count (Some vs) n h = at vs n h
  where
    at : (vs : List Value21) → All (NamesOne count) vs → Any (PointsNowhere count) vs → ⊥
    at [] all any = no_first (PointsNowhere count) any
    at (v ∷ vs) all any = elim (first_or (PointsNowhere count) v vs any) [
      | inl here ↦ (let one = all 0 v (omega arith) in here one.0 one.1)
      | inr later ↦ at vs (λ k d lt. all (suc k) d (omega (arith, lt))) later
    ]

-- an index that names a point counts something
counts : (names : Option (List Value21)) (points : List Point) (v : Value21) (corner : Point) → IsCorner names points v corner → PointsNowhere (counted_by names (length points)) v → ⊥
counts None points v corner c nowhere = nowhere c.place c.names
counts (Some vs) points v corner c nowhere = nowhere c.names.0 c.names.1

corners_good : (names : Option (List Value21)) (points : List Point) (vs : List Value21) (corners : List Point) → AreCorners names points vs corners → Any (PointsNowhere (counted_by names (length points))) vs → ⊥
corners_good names points [] corners z any = no_first (PointsNowhere (counted_by names (length points))) any
corners_good names points (v ∷ vs) [] z any = absurd z
corners_good names points (v ∷ vs) (c ∷ cs) z any = elim (first_or (PointsNowhere (counted_by names (length points))) v vs any) [
  | inl here ↦ counts names points v c z.0 here
  | inr later ↦ corners_good names points vs cs z.1 later
]

row_good : (names : Option (List Value21)) (points : List Point) (v : Value21) (t : Triangle) → IsTriangle names points v t → Any (PointsNowhere (counted_by names (length points))) (items_in v) → ⊥
row_good names points v t r any =
    corners_good names points (r.a ∷ r.b ∷ r.c ∷ []) (t.a ∷ t.b ∷ t.c ∷ []) (r.first, (r.second, (r.third, tt)))
    (subst (λ (o : Option (List Value21)). Any (PointsNowhere (counted_by names (length points))) (unwrap_or o [])) r.three any)

rows_good : (names : Option (List Value21)) (points : List Point) (vs : List Value21) (ts : List Triangle) → AreTriangles names points vs ts → Any (Any (PointsNowhere (counted_by names (length points)))) (map items_in vs) → ⊥
rows_good names points [] ts z any = no_first (Any (PointsNowhere (counted_by names (length points)))) any
rows_good names points (v ∷ vs) [] z any = absurd z
rows_good names points (v ∷ vs) (t ∷ ts) z any = elim (first_or (Any (PointsNowhere (counted_by names (length points)))) (items_in v) (map items_in vs) any) [
  | inl here ↦ row_good names points v t z.0 here
  | inr later ↦ rows_good names points vs ts z.1 later
]

faces_good : (names : Option (List Value21)) (points : List Point) (faces : List Instance) (ts : List Triangle) → Joined (IsCut names points) faces ts → Any (Any (PointsNowhere (counted_by names (length points)))) (map all_corners faces) → ⊥
faces_good names points [] ts j any = no_first (Any (PointsNowhere (counted_by names (length points)))) any
faces_good names points (f ∷ faces) ts j any = elim (first_or (Any (PointsNowhere (counted_by names (length points)))) (all_corners f) (map all_corners faces) any) [
  | inl here ↦ corners_good names points (all_corners f) (face_points j.2.outer j.2.inner) (all_cornered names points f j.2.outer j.2.inner j.2.are_loops) here
  | inr later ↦ faces_good names points faces j.1 j.3 later
]

set_rows_good : (world : List Instance) (points : List Point) (set : Instance) (ts : List Triangle) → SetTriangles world points set ts → Any (Any (PointsNowhere (counted_by (numbering set) (length points)))) (rows_of world set) → ⊥
set_rows_good world points set ts are any = by_kind (is_polygonal set) refl
  where
    by_kind : (b : Bool) → is_polygonal set ≡ b → ⊥
    by_kind true e = faces_good (numbering set) points (faces_of world set) ts (rw e at are) (rw e at any)
    by_kind false e = rows_good (numbering set) points (spelled_triangles set) ts (rw e at are) (rw e at any)

-- a set whose triangles are made of the points of its list, and whose numbers each name one, has no bad index
pub set_good : (world : List Instance) (points : List Point) (set : Instance) (ts : List Triangle) → length points ≡ length (spelled_points world set) → NamesPoints (length points) (numbering set) → SetTriangles world points set ts → HasBadIndex world set → ⊥
set_good world points set ts long names are (inl bad) = numbers_good (length points) (numbering set) names (subst (λ (n : ℕ). HasBadNumber (numbering set) n) (sym long) bad)
set_good world points set ts long names are (inr bad) = set_rows_good world points set ts are (subst (λ (n : ℕ). Any (Any (PointsNowhere (counted_by (numbering set) n))) (rows_of world set)) (sym long) bad)

-- numbers that are read each name a point
pub each_names : (count : ℕ) (vs : List Value21) (places : List ℕ) → AllZip (PointsAt count) vs places → All (NamesOne count) vs
each_names count [] places z k d lt = absurd (omega (arith, lt))
each_names count (v ∷ vs) [] z k d lt = absurd z
each_names count (v ∷ vs) (p ∷ places) z zero d lt = (p, z.0)
each_names count (v ∷ vs) (p ∷ places) z (suc k) d lt = each_names count vs places z.1 k d (omega (arith, lt))
