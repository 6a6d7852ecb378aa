-- The loops of a face as they are read and cut.
use Rattle.std.proofs.Common.{◌≡◌, ◌+◌, ◌<◌, ◌≤◌, List, [], ◌∷◌, ◌++◌, length, map, Option, Some, None, Any, Vec, Global, Result, Ok, Err, IfOk, MatchOption, sym, ap, ◌∙◌, subst, arith}
use Rattle.std.specs.List.{All, AllZip}
use Rattle.std.proofs.lemmas.List.{length-append, map-append}
use Rattle.std.proofs.lemmas.List.Elements.{All-push}
use Rattle.p21_values.specs.declared.value.Value21.{Value21}
use Rattle.p21_values.specs.declared.value.Instance.{Instance}
use Rattle.p21_values.specs.Attributes.{items_in}
use Rattle.bim_model.specs.declared.geometry.Point.{Point}
use Rattle.bim_model.specs.declared.geometry.Triangle.{Triangle}
use Rattle.bim_model.specs.Points.{IsGridPoint}
use Rattle.ear_cut.specs.declared.ears.Ear.{Ear}
use Rattle.void_bridge.specs.HoleLoops.{corner_count, IsLoop, AreLoops}
use Rattle.faceset.specs.declared.faces.FaceLoops.{FaceLoops}
use Rattle.faceset.specs.FacePolygons.{face_points, ears_of, AreApart}
use Rattle.faceset.specs.FaceSets.{IsCorner, AreCorners, IsMisnamed, IsOutlined, IsCut, IsStuck, IsUnbridged, outline, inner_loops, all_corners, most_corners, triangle_of}
use Rattle.faceset.specs.inner.Cuts.{IsUnread, HasMisnamed, AreReadLoops}
use Rattle.faceset.proofs.Anys.{any_right, any_flat}
use Rattle.faceset.proofs.Zips.{zip_length, zip_push}
use Rattle.faceset.proofs.Loops.{flat, all_cornered, flat_length, loops_long}
use Rattle.faceset.proofs.Unique.{joined_bridged}

-- ---- loops, one more
abbrev pub items_of : {X : Type 0} → List (Vec X Global) → List (List X)
items_of vs = map (λ v. v.items) vs

items_push : {X : Type 0} (vs : List (Vec X Global)) (v : Vec X Global) → items_of (vs ++ v ∷ []) ≡ items_of vs ++ v.items ∷ []
items_push {X} vs v = map-append (λ (w : Vec X Global). w.items) vs (v ∷ [])

pub loops_more : (numbers : Option (List Value21)) (points : List Point) (rows : List Value21) (row : Value21) (old new : List (Vec Point Global)) (made : Vec Point Global) → new ≡ old ++ made ∷ []
    → AreCorners numbers points (items_in row) made.items × IsLoop made.items
    → AllZip (AreCorners numbers points) (map items_in rows) (items_of old) × AreLoops (items_of old)
    → AllZip (AreCorners numbers points) (map items_in (rows ++ row ∷ [])) (items_of new) × AreLoops (items_of new)
loops_more numbers points rows row old new made grown here are =
    let e : items_of new ≡ items_of old ++ made.items ∷ [] = ap items_of grown ∙ items_push old made in
    let z = zip_push (AreCorners numbers points) (map items_in rows) (items_of old) (items_in row) made.items are.0 here.0 in (
      subst (λ (us : List (List Point)). AllZip (AreCorners numbers points) (map items_in (rows ++ row ∷ [])) us) (sym e)
          (subst (λ (vs : List (List Value21)). AllZip (AreCorners numbers points) vs (items_of old ++ made.items ∷ [])) (sym (map-append items_in rows (row ∷ []))) z),
      subst AreLoops (sym e) (All-push IsLoop (items_of old) made.items are.1 here.1),
    )

-- ---- one loop
pub loop_read : {E : Type 0} (numbers : Option (List Value21)) (points : List Point) (indexes : List Value21) (r : Result (Option (Vec Point Global)) E) → 3 ≤ length indexes
    → IfOk r (λ found. MatchOption found (Any (IsMisnamed numbers (length points)) indexes) (λ made. AreCorners numbers points indexes made.items × All IsGridPoint made.items))
    → IfOk r (λ found. MatchOption found (IsUnread numbers points indexes) (λ made. AreCorners numbers points indexes made.items × IsLoop made.items))
loop_read numbers points indexes (Err e) three h = h
loop_read numbers points indexes (Ok None) three h = λ long. h
loop_read numbers points indexes (Ok (Some made)) three h =
    (h.0, record { three = (let l = zip_length (IsCorner numbers points) indexes made.items h.0 in omega (arith, l, three)); in_grid = h.1 })

-- ---- loops that aren't ready
any_long : (P : List Value21 → Type 0) (xss : List (List Value21)) → Any (λ xs. 2 < length xs → P xs) xss → All (λ (xs : List Value21). 2 < length xs) xss → Any P xss
any_long P xss any long =
    (any.0, any.1, any.2, any.3, any.4 (subst (λ (xs : List Value21). 2 < length xs) any.3 (long any.0 any.1 any.2)))

pub inner_unready : (numbers : Option (List Value21)) (points : List Point) (face : Instance) → Any (IsUnread numbers points) (inner_loops face) → IsOutlined face → HasMisnamed numbers points face
inner_unready numbers points face unread outlined =
    let M = IsMisnamed numbers (length points) in
    any_right M (outline face) (flat (inner_loops face)) (any_flat M (inner_loops face) (any_long (λ xs. Any M xs) (inner_loops face) unread outlined.inner))

-- ---- a face whose loops were read
abbrev pub inner_of : FaceLoops → List (List Point)
inner_of made = items_of made.inner.items

pub read_few : (numbers : Option (List Value21)) (points : List Point) (face : Instance) (made : FaceLoops) → AreReadLoops numbers points face made → length (all_corners face) ≤ most_corners
    → length made.outer.items + corner_count (inner_of made) ≤ most_corners
read_few numbers points face made read few =
    let z = zip_length (IsCorner numbers points) (all_corners face) (face_points made.outer.items (inner_of made)) (all_cornered numbers points face made.outer.items (inner_of made) read.are_loops) in
    let a = length-append made.outer.items (flat (inner_of made)) in
    let l = flat_length (inner_of made) in
    omega (arith, z, a, l, few)

pub read_outlined : (numbers : Option (List Value21)) (points : List Point) (face : Instance) (made : FaceLoops) → AreReadLoops numbers points face made → length (all_corners face) ≤ most_corners → IsOutlined face
read_outlined numbers points face made read few = record {
  outer = (let l = zip_length (IsCorner numbers points) (outline face) made.outer.items read.are_loops.outer_are in let t = read.outer.three in omega (arith, l, t));
  inner = loops_long (IsCorner numbers points) (inner_loops face) (inner_of made) read.are_loops.inner_are read.inner;
  few = few;
}

pub read_cut : (numbers : Option (List Value21)) (points : List Point) (face : Instance) (made : FaceLoops) (ears : List Ear) (ts : List Triangle) → AreReadLoops numbers points face made → length (all_corners face) ≤ most_corners
    → ears_of made.outer.items (inner_of made) ≡ Some ears → ts ≡ map (triangle_of (face_points made.outer.items (inner_of made))) ears → IsCut numbers points face ts
read_cut numbers points face made ears ts read few cut are = record {
  outlined = read_outlined numbers points face made read few;
  outer = made.outer.items;
  inner = inner_of made;
  are_loops = read.are_loops;
  ears = ears;
  cut = cut;
  are_triangles = are;
}

pub read_stuck : (numbers : Option (List Value21)) (points : List Point) (face : Instance) (made : FaceLoops) → AreReadLoops numbers points face made → length (all_corners face) ≤ most_corners
    → (ears_of made.outer.items (inner_of made) ≡ None) × (AreApart made.outer.items (inner_of made) → ⊥) → IsStuck numbers points face × (IsUnbridged numbers points face → ⊥)
read_stuck numbers points face made read few stuck = (
  record { outlined = read_outlined numbers points face made read few; outer = made.outer.items; inner = inner_of made; are_loops = read.are_loops; stuck = stuck.0 },
  joined_bridged numbers points face made.outer.items (inner_of made) read.are_loops stuck.1,
)

pub read_apart : (numbers : Option (List Value21)) (points : List Point) (face : Instance) (made : FaceLoops) → AreReadLoops numbers points face made → length (all_corners face) ≤ most_corners
    → AreApart made.outer.items (inner_of made) → IsUnbridged numbers points face
read_apart numbers points face made read few apart = record {
  outlined = read_outlined numbers points face made read few;
  outer = made.outer.items;
  inner = inner_of made;
  are_loops = read.are_loops;
  apart = apart;
}
