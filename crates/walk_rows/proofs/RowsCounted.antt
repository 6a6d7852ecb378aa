-- A set has as many triangles as are counted of it.
use Rattle.std.proofs.Common.{◌≡◌, Bool, true, false, List, [], ◌∷◌, length, sum_by, Option, refl, sym, ap, ◌∙◌, arith}
use Rattle.std.proofs.lemmas.List.{length-append}
use Rattle.std.proofs.lemmas.List.Sums.{sum_by-cons}
use Rattle.bim_model.specs.declared.geometry.Point.{Point}
use Rattle.bim_model.specs.declared.geometry.Triangle.{Triangle}
use Rattle.p21_values.specs.declared.value.Value21.{Value21}
use Rattle.p21_values.specs.declared.value.Instance.{Instance}
use Rattle.faceset.specs.FaceSets.{IsTriangle, IsCut, Joined, SetTriangles, numbering, is_polygonal, faces_of, spelled_triangles, face_count, triangle_count}
use Rattle.faceset.proofs.Loops.{cut_count}
use Rattle.walk_rows.proofs.RowsNamed.{zip_long}

faces_count : (names : Option (List Value21)) (points : List Point) (faces : List Instance) (ts : List Triangle) → Joined (IsCut names points) faces ts → length ts ≡ sum_by face_count faces
faces_count names points [] ts j = ap length j
faces_count names points (f ∷ faces) ts j =
    let here = cut_count names points f j.0 j.2 in
    let rest = faces_count names points faces j.1 j.3 in
    let long = ap length j.4 ∙ length-append j.0 j.1 in
    let sum = sum_by-cons face_count f faces in
    omega (arith, here, rest, long, sum)

pub set_count : (world : List Instance) (points : List Point) (set : Instance) (ts : List Triangle) → SetTriangles world points set ts → length ts ≡ triangle_count world set
set_count world points set ts are = by_kind (is_polygonal set) refl
  where
    by_kind : (b : Bool) → is_polygonal set ≡ b → length ts ≡ triangle_count world set
    by_kind true e = rw e (faces_count (numbering set) points (faces_of world set) ts (rw e at are))
    by_kind false e = rw e (sym (zip_long (IsTriangle (numbering set) points) (spelled_triangles set) ts (rw e at are)))
