-- Rows of indexes say the triangles of a set.
use Rattle.std.proofs.Common.{◌≡◌, ℕ, zero, suc, ◌<◌, List, [], ◌∷◌, length, map, get_or, Option, Some, None, refl, sym, subst, arith}
use Rattle.std.specs.List.{AllZip}
use Rattle.std.proofs.lemmas.Option.{slice_get-get_or}
use Rattle.bim_model.specs.declared.geometry.Point.{Point}
use Rattle.p21_values.specs.declared.value.Value21.{Value21}
use Rattle.ear_cut.specs.Areas.{point_at}
use Rattle.faceset.specs.Indexes.{PointsAt}
use Rattle.faceset.specs.FaceSets.{NamesPoint, IsCorner, AreCorners, IsTriangle, AreTriangles}
use Rattle.walk_rows.specs.declared.triangle_rows.Row.{Row}
use Rattle.walk_rows.specs.Rows.{triangle_at, triangles_at, AreNumbers, IsRowOf}

pub zip_long : {A B : Type 0} (R : A → B → Type 0) (xs : List A) (ys : List B) → AllZip R xs ys → length xs ≡ length ys
zip_long R [] [] z = refl
zip_long R [] (y ∷ ys) z = absurd z
zip_long R (x ∷ xs) [] z = absurd z
zip_long R (x ∷ xs) (y ∷ ys) z = let l = zip_long R xs ys z.1 in omega (arith, l)

pub zip_at : {A B : Type 0} (R : A → B → Type 0) (xs : List A) (ys : List B) (i : ℕ) (d : A) (e : B) → AllZip R xs ys → i < length xs → R (get_or xs i d) (get_or ys i e)
zip_at R [] ys i d e z lt = absurd (omega (arith, lt))
zip_at R (x ∷ xs) [] i d e z lt = absurd z
zip_at R (x ∷ xs) (y ∷ ys) zero d e z lt = z.0
zip_at R (x ∷ xs) (y ∷ ys) (suc i) d e z lt = zip_at R xs ys i d e z.1 (omega (arith, lt))

pub zip_by : {A B C : Type 0} (R : A → B → Type 0) (Q : A → C → Type 0) (f : B → C) → ((a : A) (b : B) → R a b → Q a (f b)) → (xs : List A) (ys : List B) → AllZip R xs ys → AllZip Q xs (map f ys)
zip_by R Q f g [] [] z = tt
zip_by R Q f g [] (y ∷ ys) z = absurd z
zip_by R Q f g (x ∷ xs) [] z = absurd z
zip_by R Q f g (x ∷ xs) (y ∷ ys) z = (g x y z.0, zip_by R Q f g xs ys z.1)

-- an index that names a number names the point of that number
numbered : (count : ℕ) (names : Option (List Value21)) (places : List ℕ) (v : Value21) (at : ℕ) → AreNumbers count names (Some places) → PointsAt (length places) v at → NamesPoint names count v (get_or places at 0)
numbered count None places v at are p = absurd are
numbered count (Some vs) places v at are p =
    let l = zip_long (PointsAt count) vs places are in
    let w = p.within in
    let lt : at < length vs = omega (arith, w, l) in
    (at, subst (λ (n : ℕ). PointsAt n v at) (sym l) p, get_or vs at v, slice_get-get_or vs at v lt, zip_at (PointsAt count) vs places at v 0 are lt)

pub numbered_by : (count : ℕ) (names : Option (List Value21)) (numbers : Option (List ℕ)) (places : List ℕ) (v : Value21) (at : ℕ) → numbers ≡ Some places → AreNumbers count names numbers → PointsAt (length places) v at
    → NamesPoint names count v (get_or places at 0)
numbered_by count names numbers places v at e are p = numbered count names places v at (subst (λ (o : Option (List ℕ)). AreNumbers count names o) e are) p

-- an index names a point within the list
pub named_within : (names : Option (List Value21)) (count : ℕ) (v : Value21) (place : ℕ) → NamesPoint names count v place → place < count
named_within None count v place p = p.within
named_within (Some vs) count v place p = p.4.within

pub corner_named : (names : Option (List Value21)) (points : List Point) (v : Value21) (place : ℕ) → NamesPoint names (length points) v place → IsCorner names points v (point_at points place)
corner_named names points v place p = record { place = place; names = p; there = slice_get-get_or points place _ (named_within names (length points) v place p) }

row_triangle : (names : Option (List Value21)) (points : List Point) (v : Value21) (row : Row) → IsRowOf names (length points) v row → IsTriangle names points v (triangle_at points row)
row_triangle names points v row r = record {
  a = r.a;
  b = r.b;
  c = r.c;
  three = r.three;
  first = corner_named names points r.a row.a r.first;
  second = corner_named names points r.b row.b r.second;
  third = corner_named names points r.c row.c r.third;
}

pub rows_triangles : (names : Option (List Value21)) (points : List Point) (vs : List Value21) (rows : List Row) → AllZip (IsRowOf names (length points)) vs rows → AreTriangles names points vs (triangles_at points rows)
rows_triangles names points vs rows z = zip_by (IsRowOf names (length points)) (IsTriangle names points) (triangle_at points) (row_triangle names points) vs rows z

pub corners_named : (names : Option (List Value21)) (points : List Point) (vs : List Value21) (places : List ℕ) → AllZip (NamesPoint names (length points)) vs places → AreCorners names points vs (map (point_at points) places)
corners_named names points vs places z = zip_by (NamesPoint names (length points)) (IsCorner names points) (point_at points) (corner_named names points) vs places z
