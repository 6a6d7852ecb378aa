-- What holds of all points of a set holds of all corners of its triangles.
use Rattle.std.proofs.Common.{◌≡◌, ℕ, ◌<◌, ◌≤◌, pos, Bool, true, false, List, [], ◌∷◌, ◌++◌, length, map, Option, All, ◌⊎◌, inl, inr, refl, sym, ap, subst}
use Rattle.std.specs.Bool.{MatchBool}
use Rattle.std.proofs.lemmas.Bool.{cases_lt}
use Rattle.std.proofs.lemmas.List.{get_or_past}
use Rattle.std.proofs.lemmas.List.Elements.{All-nil, All-cons, All-append, All-get_or}
use Rattle.p21_values.specs.declared.value.Value21.{Value21}
use Rattle.p21_values.specs.declared.value.Instance.{Instance}
use Rattle.bim_model.specs.declared.geometry.Point.{Point}
use Rattle.bim_model.specs.declared.geometry.Triangle.{Triangle}
use Rattle.bim_model.specs.Boxes.{corners_of}
use Rattle.ear_cut.specs.declared.ears.Ear.{Ear}
use Rattle.ear_cut.specs.Areas.{point_at}
use Rattle.ear_cut.specs.Corners.{nobody}
use Rattle.faceset.specs.FaceSets.{numbering, is_polygonal, faces_of, spelled_triangles, all_corners, triangle_of, IsCorner, AreTriangles, IsCut, Joined, SetTriangles}
use Rattle.faceset.specs.FacePolygons.{face_points}
use Rattle.faceset.proofs.Zips.{zip_all}
use Rattle.faceset.proofs.Loops.{all_cornered}
use Rattle.faceset.proofs.Corners.{corner_has}

pub point_has : (P : Point → Type 0) → P nobody.point → (corners : List Point) → All P corners → (place : ℕ) → P (point_at corners place)
point_has P origin corners all place = from (cases_lt place (length corners))
  where
    from : (place < length corners) ⊎ (length corners ≤ place) → P (point_at corners place)
    from (inl lt) = All-get_or P corners place nobody.point lt all
    from (inr le) = subst P (sym (get_or_past corners place nobody.point le)) origin

three_have : (P : Point → Type 0) (t : Triangle) (ts : List Triangle) → P t.a → P t.b → P t.c → All P (corners_of ts) → All P (corners_of (t ∷ ts))
three_have P t ts a b c all = All-cons P t.a (t.b ∷ t.c ∷ corners_of ts) a (All-cons P t.b (t.c ∷ corners_of ts) b (All-cons P t.c (corners_of ts) c all))

ears_have : (P : Point → Type 0) → P nobody.point → (corners : List Point) → All P corners → (ears : List Ear) → All P (corners_of (map (triangle_of corners) ears))
ears_have P origin corners all [] = All-nil P
ears_have P origin corners all (e ∷ es) =
    three_have P (triangle_of corners e) (map (triangle_of corners) es) (point_has P origin corners all e.a) (point_has P origin corners all e.b) (point_has P origin corners all e.c) (ears_have P origin corners all es)

cut_has : (P : Point → Type 0) → P nobody.point → (numbers : Option (List Value21)) (points : List Point) → All P points → (face : Instance) (ts : List Triangle) → IsCut numbers points face ts → All P (corners_of ts)
cut_has P origin numbers points all face ts cut =
    let made = face_points cut.outer cut.inner in
    let corners = zip_all (IsCorner numbers points) P (corner_has P numbers points all) (all_corners face) made (all_cornered numbers points face cut.outer cut.inner cut.are_loops) in
    subst (λ (us : List Triangle). All P (corners_of us)) (sym cut.are_triangles) (ears_have P origin made corners cut.ears)

corners_append : (ts us : List Triangle) → corners_of (ts ++ us) ≡ corners_of ts ++ corners_of us
corners_append [] us = refl
corners_append (t ∷ ts) us = ap (λ (ps : List Point). t.a ∷ t.b ∷ t.c ∷ ps) (corners_append ts us)

joined_has : (P : Point → Type 0) (Gives : Instance → List Triangle → Type 0) → ((face : Instance) (ts : List Triangle) → Gives face ts → All P (corners_of ts))
    → (faces : List Instance) (ts : List Triangle) → Joined Gives faces ts → All P (corners_of ts)
joined_has P Gives each [] ts j = subst (λ (us : List Triangle). All P (corners_of us)) (sym j) (All-nil P)
joined_has P Gives each (f ∷ fs) ts j =
    subst (λ (us : List Triangle). All P (corners_of us)) (sym j.4)
    (subst (All P) (sym (corners_append j.0 j.1)) (All-append P (corners_of j.0) (corners_of j.1) (each f j.0 j.2) (joined_has P Gives each fs j.1 j.3)))

rows_have : (P : Point → Type 0) (numbers : Option (List Value21)) (points : List Point) → All P points → (rows : List Value21) (ts : List Triangle) → AreTriangles numbers points rows ts → All P (corners_of ts)
rows_have P numbers points all [] [] are = All-nil P
rows_have P numbers points all [] (t ∷ ts) are = absurd are
rows_have P numbers points all (r ∷ rs) [] are = absurd are
rows_have P numbers points all (r ∷ rs) (t ∷ ts) are =
    three_have P t ts (corner_has P numbers points all are.0.a t.a are.0.first) (corner_has P numbers points all are.0.b t.b are.0.second) (corner_has P numbers points all are.0.c t.c are.0.third)
    (rows_have P numbers points all rs ts are.1)

either_has : (P : Point → Type 0) → P nobody.point → (numbers : Option (List Value21)) (points : List Point) → All P points → (faces : List Instance) (rows : List Value21) (ts : List Triangle) (polygonal : Bool)
    → MatchBool polygonal (Joined (IsCut numbers points) faces ts) (AreTriangles numbers points rows ts) → All P (corners_of ts)
either_has P origin numbers points all faces rows ts true h = joined_has P (IsCut numbers points) (cut_has P origin numbers points all) faces ts h
either_has P origin numbers points all faces rows ts false h = rows_have P numbers points all rows ts h

pub set_holds : (P : Point → Type 0) → P (record { x = pos 0; y = pos 0; z = pos 0 }) → (world : List Instance) (points : List Point) (set : Instance) (ts : List Triangle)
    → All P points → SetTriangles world points set ts → All P (corners_of ts)
set_holds P origin world points set ts all made = either_has P origin (numbering set) points all (faces_of world set) (spelled_triangles set) ts (is_polygonal set) made
