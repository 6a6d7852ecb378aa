-- An index names one point at most, so a set has one list of triangles at most.
use Rattle.std.proofs.Common.{◌≡◌, ℕ, suc, pos, Bool, true, false, List, [], ◌∷◌, length, map, get_or, Option, Some, None, Contains, inl, inr, sym, ◌∙◌, ap, subst, arith}
use Rattle.std.specs.Bool.{MatchBool}
use Rattle.std.specs.List.{slice_get}
use Rattle.std.proofs.lemmas.Bool.{MatchBool-at_true}
use Rattle.std.proofs.lemmas.Option.{same_Some, none-some}
use Rattle.p21_values.specs.declared.value.Value21.{Value21}
use Rattle.p21_values.specs.declared.value.Instance.{Instance}
use Rattle.bim_model.specs.declared.geometry.Point.{Point}
use Rattle.bim_model.specs.declared.geometry.Triangle.{Triangle}
use Rattle.p21_values.specs.InstanceLookup.{look}
use Rattle.bim_text.specs.Decimals.{WritesWhole}
use Rattle.faceset.specs.FacePolygons.{face_points, ears_of, AreApart}
use Rattle.faceset.specs.Indexes.{PointsAt}
use Rattle.faceset.specs.FaceSets.{NamesPoint, IsMisnamed, IsCorner, AreCorners, IsTriangle, AreTriangles, triangle_of, outline, inner_loops, AreLoopsOf, IsCut, IsStuck, IsUnbridged, Joined, SetTriangles, HasStuck, numbering, is_polygonal, faces_of, face_ids, spelled_triangles}
use Rattle.faceset.proofs.Decimals.{one_number}
use Rattle.faceset.proofs.Zips.{zip_same}
use Rattle.faceset.proofs.Joins.{contains_mapped, joined_at, joined_same}

pub places_same : (count : ℕ) (v : Value21) (k l : ℕ) → PointsAt count v k → PointsAt count v l → k ≡ l
places_same count v k l p q =
    let bytes : p.bytes ≡ q.bytes = same_Some p.bytes q.bytes (sym p.number ∙ q.number) in
    let e = one_number q.bytes (suc k) (suc l) (subst (λ (bs : List ℕ). WritesWhole bs (pos (suc k))) bytes p.written) q.written in
    omega (arith, e)

-- an index names one point at most
pub names_same : (numbers : Option (List Value21)) (count : ℕ) (v : Value21) (k l : ℕ) → NamesPoint numbers count v k → NamesPoint numbers count v l → k ≡ l
names_same None count v k l p q = places_same count v k l p q
names_same (Some numbers) count v k l p q =
    let at : p.0 ≡ q.0 = places_same (length numbers) v p.0 q.0 p.1 q.1 in
    let number : p.2 ≡ q.2 = same_Some p.2 q.2 (sym p.3 ∙ ap (slice_get numbers) at ∙ q.3) in
    places_same count q.2 k l (subst (λ (n : Value21). PointsAt count n k) number p.4) q.4

-- .. and one that names a point isn't misnamed
pub named_well : (numbers : Option (List Value21)) (count : ℕ) (v : Value21) (k : ℕ) → NamesPoint numbers count v k → IsMisnamed numbers count v → ⊥
named_well None count v k p m = m k p
named_well (Some numbers) count v k p (inl m) = m p.0 p.1
named_well (Some numbers) count v k p (inr m) =
    let at : p.0 ≡ m.0 = places_same (length numbers) v p.0 m.0 p.1 m.1 in
    let number : p.2 ≡ m.2 = same_Some p.2 m.2 (sym p.3 ∙ ap (slice_get numbers) at ∙ m.3) in
    m.4 k (subst (λ (n : Value21). PointsAt count n k) number p.4)

pub corner_same : (numbers : Option (List Value21)) (points : List Point) (v : Value21) (a b : Point) → IsCorner numbers points v a → IsCorner numbers points v b → a ≡ b
corner_same numbers points v a b p q =
    let place = names_same numbers (length points) v p.place q.place p.names q.names in
    same_Some a b (sym p.there ∙ ap (slice_get points) place ∙ q.there)

-- indexes have one list of corners at most
pub corners_same : (numbers : Option (List Value21)) (points : List Point) (indexes : List Value21) (cs ds : List Point) → AreCorners numbers points indexes cs → AreCorners numbers points indexes ds → cs ≡ ds
corners_same numbers points indexes cs ds p q = zip_same (IsCorner numbers points) (corner_same numbers points) indexes cs ds p q

-- .. and a face one list of loops
pub loops_same : (numbers : Option (List Value21)) (points : List Point) (face : Instance) (o p : List Point) (i j : List (List Point)) → AreLoopsOf numbers points face o i → AreLoopsOf numbers points face p j → (o ≡ p) × (i ≡ j)
loops_same numbers points face o p i j a b = (
  corners_same numbers points (outline face) o p a.outer_are b.outer_are,
  zip_same (AreCorners numbers points) (corners_same numbers points) (inner_loops face) i j a.inner_are b.inner_are,
)

ears_same : (o p : List Point) (i j : List (List Point)) → o ≡ p → i ≡ j → ears_of o i ≡ ears_of p j
ears_same o p i j e f = ap (λ (q : List Point). ears_of q i) e ∙ ap (ears_of p) f

-- .. and one list of triangles
pub cut_same : (numbers : Option (List Value21)) (points : List Point) (face : Instance) (ts us : List Triangle) → IsCut numbers points face ts → IsCut numbers points face us → ts ≡ us
cut_same numbers points face ts us p q =
    let loops = loops_same numbers points face p.outer q.outer p.inner q.inner p.are_loops q.are_loops in
    let corners : face_points p.outer p.inner ≡ face_points q.outer q.inner = ap (λ (o : List Point). face_points o p.inner) loops.0 ∙ ap (face_points q.outer) loops.1 in
    let ears = same_Some p.ears q.ears (sym p.cut ∙ ears_same p.outer q.outer p.inner q.inner loops.0 loops.1 ∙ q.cut) in
    p.are_triangles ∙ ap (λ cs. map (triangle_of cs) p.ears) corners ∙ ap (map (triangle_of (face_points q.outer q.inner))) ears ∙ sym q.are_triangles

-- a face that is cut isn't stuck
pub cut_unstuck : (numbers : Option (List Value21)) (points : List Point) (face : Instance) (ts : List Triangle) → IsCut numbers points face ts → IsStuck numbers points face → ⊥
cut_unstuck numbers points face ts p q =
    let loops = loops_same numbers points face q.outer p.outer q.inner p.inner q.are_loops p.are_loops in
    none-some p.ears (sym q.stuck ∙ ears_same q.outer p.outer q.inner p.inner loops.0 loops.1 ∙ p.cut)

-- nor one whose loops are joined unbridged
pub joined_bridged : (numbers : Option (List Value21)) (points : List Point) (face : Instance) (outer : List Point) (inner : List (List Point)) → AreLoopsOf numbers points face outer inner → (AreApart outer inner → ⊥) → IsUnbridged numbers points face → ⊥
joined_bridged numbers points face outer inner are joined u =
    let loops = loops_same numbers points face u.outer outer u.inner inner u.are_loops are in
    joined (subst (λ (o : List Point). AreApart o inner) loops.0 (subst (AreApart u.outer) loops.1 u.apart))

triangle_by : (t u : Triangle) → t.a ≡ u.a → t.b ≡ u.b → t.c ≡ u.c → t ≡ u
triangle_by t u e f g =
    let made : Point → Point → Point → Triangle = λ a b c. record { a = a; b = b; c = c } in
    ap (λ (x : Point). made x t.b t.c) e ∙ ap (λ (x : Point). made u.a x t.c) f ∙ ap (λ (x : Point). made u.a u.b x) g

pub triangle_same : (numbers : Option (List Value21)) (points : List Point) (row : Value21) (t u : Triangle) → IsTriangle numbers points row t → IsTriangle numbers points row u → t ≡ u
triangle_same numbers points row t u p q =
    let rows = same_Some (p.a ∷ p.b ∷ p.c ∷ []) (q.a ∷ q.b ∷ q.c ∷ []) (sym p.three ∙ q.three) in
    let a : p.a ≡ q.a = ap (λ (vs : List Value21). get_or vs 0 p.a) rows in
    let b : p.b ≡ q.b = ap (λ (vs : List Value21). get_or vs 1 p.a) rows in
    let c : p.c ≡ q.c = ap (λ (vs : List Value21). get_or vs 2 p.a) rows in
    triangle_by t u (corner_same numbers points q.a t.a u.a (subst (λ (v : Value21). IsCorner numbers points v t.a) a p.first) q.first)
    (corner_same numbers points q.b t.b u.b (subst (λ (v : Value21). IsCorner numbers points v t.b) b p.second) q.second)
    (corner_same numbers points q.c t.c u.c (subst (λ (v : Value21). IsCorner numbers points v t.c) c p.third) q.third)

either_same : (numbers : Option (List Value21)) (points : List Point) (faces : List Instance) (rows : List Value21) (ts us : List Triangle) (polygonal : Bool)
    → MatchBool polygonal (Joined (IsCut numbers points) faces ts) (AreTriangles numbers points rows ts)
    → MatchBool polygonal (Joined (IsCut numbers points) faces us) (AreTriangles numbers points rows us) → ts ≡ us
either_same numbers points faces rows ts us true p q = joined_same (IsCut numbers points) (cut_same numbers points) faces ts us p q
either_same numbers points faces rows ts us false p q = zip_same (IsTriangle numbers points) (triangle_same numbers points) rows ts us p q

-- a set has one list of triangles at most
pub set_triangles_same : (world : List Instance) (points : List Point) (set : Instance) (ts us : List Triangle) → SetTriangles world points set ts → SetTriangles world points set us → ts ≡ us
set_triangles_same world points set ts us p q = either_same (numbering set) points (faces_of world set) (spelled_triangles set) ts us (is_polygonal set) p q

has_face : (world : List Instance) (set : Instance) (id : ℕ) (face : Instance) → Contains (face_ids set) id → look world id ≡ Some face → Contains (faces_of world set) face
unfolding faces_of face_ids
has_face world set id face listed found = contains_mapped (look world) (face_ids set) id face listed found

-- a set with triangles has no face that can't be cut
pub never_stuck : (world : List Instance) (points : List Point) (set : Instance) (ts : List Triangle) → SetTriangles world points set ts → (id : ℕ) → HasStuck world points set id → ⊥
never_stuck world points set ts made id h =
    let joined = MatchBool-at_true (Joined (IsCut (numbering set) points) (faces_of world set) ts) (AreTriangles (numbering set) points (spelled_triangles set) ts) h.polygonal made in
    let named = has_face world set id h.face h.listed h.found in
    let part = joined_at (IsCut (numbering set) points) (faces_of world set) ts named.0 h.face named.1 named.2 joined in
    cut_unstuck (numbering set) points h.face part.0 part.1 h.such
