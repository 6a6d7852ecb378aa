-- Rows that are read say the triangles of the set.
use Rattle.std.proofs.Common.{◌≡◌, Bool, true, false, List, length, Option, Some, None, Result, Ok, Err, sym, subst}
use Rattle.std.specs.Prelude.{IfOk, IfSome}
use Rattle.std.specs.Bool.{MatchBool}
use Rattle.std.specs.List.{AllZip}
use Rattle.bim_model.specs.declared.geometry.Point.{Point}
use Rattle.bim_model.specs.declared.geometry.Triangle.{Triangle}
use Rattle.p21_values.specs.declared.value.Value21.{Value21}
use Rattle.p21_values.specs.declared.value.Instance.{Instance}
use Rattle.p21_values.specs.Attributes.{listed, led_to}
use Rattle.faceset.specs.FaceSets.{IsCut, Joined, AreTriangles, SetTriangles, is_polygonal, numbering, faces_of, spelled_triangles}
use Rattle.walk_rows.specs.declared.triangle_rows.Row.{Row}
use Rattle.walk_rows.specs.Rows.{triangles_at, IsRowOf}
use Rattle.walk_rows.proofs.RowsNamed.{rows_triangles}

-- what is there is such a thing, since it is another
pub some_by : {A E : Type 0} (P Q : A → Type 0) (r : Result (Option A) E) → ((a : A) → P a → Q a) → IfOk r (λ found. IfSome found P) → IfOk r (λ found. IfSome found Q)
some_by P Q (Err e) f h = h
some_by P Q (Ok None) f h = h
some_by P Q (Ok (Some a)) f h = f a h

-- it holds whatever is there
pub some_all : {A E : Type 0} (Q : Type 0) (r : Result (Option A) E) → Q → IfOk r (λ found. IfSome found (λ a. Q))
some_all Q (Err e) q = tt
some_all Q (Ok None) q = tt
some_all Q (Ok (Some a)) q = q

pub faces_triangles : (world : List Instance) (points : List Point) (set : Instance) (values : List Value21) (ts : List Triangle) → is_polygonal set ≡ true → values ≡ listed set 2 → Joined (IsCut (numbering set) points) (led_to world values) ts
    → SetTriangles world points set ts
unfolding faces_of
faces_triangles world points set values ts kind e j =
    subst (λ (b : Bool). MatchBool b (Joined (IsCut (numbering set) points) (faces_of world set) ts) (AreTriangles (numbering set) points (spelled_triangles set) ts)) (sym kind)
    (subst (λ (vs : List Value21). Joined (IsCut (numbering set) points) (led_to world vs) ts) e j)

pub listed_triangles : (world : List Instance) (points : List Point) (set : Instance) (values : List Value21) (rows : List Row) → is_polygonal set ≡ false → values ≡ listed set 3 → AllZip (IsRowOf (numbering set) (length points)) values rows
    → SetTriangles world points set (triangles_at points rows)
listed_triangles world points set values rows kind e z =
    subst (λ (b : Bool). MatchBool b (Joined (IsCut (numbering set) points) (faces_of world set) (triangles_at points rows)) (AreTriangles (numbering set) points (spelled_triangles set) (triangles_at points rows))) (sym kind)
    (rows_triangles (numbering set) points (listed set 3) rows (subst (λ (vs : List Value21). AllZip (IsRowOf (numbering set) (length points)) vs rows) e z))
