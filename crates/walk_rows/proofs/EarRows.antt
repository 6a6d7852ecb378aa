-- The rows of the ears of a face say its triangles.
use Rattle.std.proofs.Common.{◌≡◌, ℕ, zero, suc, ◌+◌, ◌<◌, ◌≤◌, ◌^◌, pos, List, [], ◌∷◌, ◌++◌, length, map, get_or, Option, Some, refl, sym, ap, ◌∙◌, subst, arith}
use Rattle.std.specs.List.{All, AllZip, flat_map}
use Rattle.std.proofs.Math.ListN.{get_or-map}
use Rattle.std.proofs.lemmas.List.{get_or_past, length-map, length-append, map-append, get_or-map as List-get_or-map}
use Rattle.std.proofs.lemmas.List.Elements.{All-nil, All-cons}
use Rattle.bim_model.specs.Points.{IsGridPoint}
use Rattle.bim_model.specs.declared.geometry.Point.{Point}
use Rattle.p21_values.specs.declared.value.Value21.{Value21}
use Rattle.p21_values.specs.declared.value.Instance.{Instance}
use Rattle.ear_cut.specs.declared.ears.Ear.{Ear}
use Rattle.ear_cut.specs.Areas.{point_at}
use Rattle.void_bridge.specs.HoleLoops.{corner_count, IsLoop, AreLoops}
use Rattle.faceset.specs.FacePolygons.{face_points, ears_of}
use Rattle.faceset.specs.FaceSets.{NamesPoint, AreCorners, IsOutlined, IsCut, outline, inner_loops, all_corners, triangle_of, most_corners}
use Rattle.faceset.proofs.Zips.{zip_append, zip_flat}
use Rattle.walk_rows.specs.declared.face_rows.LoopPlaces.{LoopPlaces}
use Rattle.walk_rows.specs.declared.triangle_rows.Row.{Row}
use Rattle.walk_rows.specs.Rows.{triangle_at, triangles_at, place_at, row_at, AddsRows}
use Rattle.walk_rows.specs.inner.LoopRows.{AreRings, inner_of, NamesLoops, HasRings}
use Rattle.walk_rows.proofs.RowsNamed.{zip_long, zip_by, corners_named}

-- a corner is the point at its place
corner_at : (points : List Point) (places : List ℕ) (k : ℕ) → length points < 2 ^ 32 → point_at points (place_at places k) ≡ point_at (map (point_at points) places) k
corner_at points places k few = sym (ap (λ (d : Point). get_or (map (point_at points) places) k d) (sym (get_or_past points 4294967295 _ (omega (arith, few)))) ∙ get_or-map (point_at points) places k 4294967295)

ear_triangle : (points : List Point) (places : List ℕ) (ear : Ear) → length points < 2 ^ 32 → triangle_at points (row_at places ear) ≡ triangle_of (map (point_at points) places) ear
ear_triangle points places ear few = rw (corner_at points places ear.a few, corner_at points places ear.b few, corner_at points places ear.c few) refl

ears_triangles : (points : List Point) (places : List ℕ) (ears : List Ear) → length points < 2 ^ 32 → triangles_at points (map (row_at places) ears) ≡ map (triangle_of (map (point_at points) places)) ears
ears_triangles points places [] few = refl
ears_triangles points places (ear ∷ ears) few = rw (ear_triangle points places ear few, ears_triangles points places ears few) refl

-- corners are points of the grid
pub corners_grid : (points : List Point) (places : List ℕ) → All IsGridPoint points → All IsGridPoint (map (point_at points) places)
corners_grid points places all k d lt =
    let m = length-map places (point_at points) in
    let e = List-get_or-map (point_at points) places k 0 d (omega (arith, lt, m)) in
    subst IsGridPoint (sym e) (at points (get_or places k 0) all)
  where
    origin : IsGridPoint (record { x = pos 0; y = pos 0; z = pos 0 })
    origin = record { x_in = search arith; y_in = search arith; z_in = search arith }

    at : (points : List Point) (place : ℕ) → All IsGridPoint points → IsGridPoint (point_at points place)
    at [] place all = origin
    at (p ∷ points) zero all = all 0 p (omega arith)
    at (p ∷ points) (suc place) all = at points place (λ k d lt. all (suc k) d (omega (arith, lt)))

-- ---- loops by the places of their corners
abbrev pub flat : {X : Type 0} → List (List X) → List X
flat {X} xss = flat_map (λ (xs : List X). xs) xss

map_flat : {X Y : Type 0} (f : X → Y) (xss : List (List X)) → map f (flat xss) ≡ flat (map (map f) xss)
map_flat f [] = refl
map_flat {X} {Y} f (xs ∷ xss) = map-append f xs (flat xss) ∙ ap (λ (ys : List Y). map f xs ++ ys) (map_flat f xss)

rings_length : (points : List Point) (rings : List (List ℕ)) → corner_count (map (map (point_at points)) rings) ≡ length (flat rings)
rings_length points [] = refl
rings_length points (ring ∷ rings) =
    let m = length-map ring (point_at points) in
    let r = rings_length points rings in
    let a = length-append ring (flat rings) in
    omega (arith, m, r, a)

pub ring_is : (points : List Point) (places : List ℕ) (corners : List Point) → All IsGridPoint points → 2 < length places → corners ≡ map (point_at points) places → IsLoop corners
ring_is points places corners all three same = record {
  three = (let e = ap length same in let m = length-map places (point_at points) in omega (arith, e, m, three));
  in_grid = subst (All IsGridPoint) (sym same) (corners_grid points places all);
}

rings_by : (points : List Point) (rings : List (List ℕ)) → All IsGridPoint points → All (λ (ring : List ℕ). 2 < length ring) rings → AreLoops (map (map (point_at points)) rings)
rings_by points [] all three = All-nil IsLoop
rings_by points (ring ∷ rings) all three =
    All-cons IsLoop (map (point_at points) ring) (map (map (point_at points)) rings) (ring_is points ring (map (point_at points) ring) all (three 0 ring (omega arith)) refl)
    (rings_by points rings all (λ k d lt. three (suc k) d (omega (arith, lt))))

pub rings_are : (points : List Point) (rings : List (List ℕ)) (corners : List (List Point)) → All IsGridPoint points → All (λ (ring : List ℕ). 2 < length ring) rings → corners ≡ map (map (point_at points)) rings → AreLoops corners
rings_are points rings corners all three same = subst AreLoops (sym same) (rings_by points rings all three)

pub rings_few : (points : List Point) (places : List ℕ) (rings : List (List ℕ)) (outer : List Point) (inner : List (List Point)) → AreRings (length places) rings
    → outer ≡ map (point_at points) places → inner ≡ map (map (point_at points)) rings → length outer + corner_count inner ≤ most_corners
rings_few points places rings outer inner are same others =
    let e = ap length same in
    let m = length-map places (point_at points) in
    let c = ap corner_count others in
    let r = rings_length points rings in
    let f = are.few in
    omega (arith, e, m, c, r, f)

rows_long : (R : Value21 → ℕ → Type 0) (xss : List (List Value21)) (rings : List (List ℕ)) → AllZip (AllZip R) xss rings → All (λ (ring : List ℕ). 2 < length ring) rings → All (λ (xs : List Value21). 2 < length xs) xss
rows_long R [] [] are all = All-nil (λ (xs : List Value21). 2 < length xs)
rows_long R [] (ring ∷ rings) are all = absurd are
rows_long R (xs ∷ xss) [] are all = absurd are
rows_long R (xs ∷ xss) (ring ∷ rings) are all =
    All-cons (λ (xs : List Value21). 2 < length xs) xs xss (let l = zip_long R xs ring are.0 in let h = all 0 ring (omega arith) in omega (arith, l, h))
    (rows_long R xss rings are.1 (λ k d lt. all (suc k) d (omega (arith, lt))))

face_outlined : (names : Option (List Value21)) (count : ℕ) (face : Instance) (places : LoopPlaces) → NamesLoops names count face places → HasRings places → IsOutlined face
face_outlined names count face places named has = record {
  outer = (let l = zip_long (NamesPoint names count) (outline face) places.outer.items named.outer in let h = has.outer in omega (arith, l, h));
  inner = rows_long (NamesPoint names count) (inner_loops face) (inner_of places) named.inner has.inner.three;
  few = (
      let z = zip_long (NamesPoint names count) (all_corners face) (places.outer.items ++ flat (inner_of places))
      (zip_append (NamesPoint names count) (outline face) (flat (inner_loops face)) places.outer.items (flat (inner_of places)) named.outer (zip_flat (NamesPoint names count) (inner_loops face) (inner_of places) named.inner)) in
      let a = length-append places.outer.items (flat (inner_of places)) in
      let f = has.inner.few in
      omega (arith, z, a, f));
}

-- a face that is cut adds the rows of its triangles
pub face_added : (names : Option (List Value21)) (points : List Point) (face : Instance) (places : LoopPlaces) (outer : List Point) (inner : List (List Point)) (all : List ℕ) (ears : List Ear) (old new : List Row) → length points < 2 ^ 32
    → NamesLoops names (length points) face places → HasRings places → outer ≡ map (point_at points) places.outer.items → inner ≡ map (map (point_at points)) (inner_of places)
    → all ≡ places.outer.items ++ flat (inner_of places) → ears_of outer inner ≡ Some ears → new ≡ old ++ map (row_at all) ears → AddsRows points (IsCut names points face) old new
face_added names points face places outer inner all ears old new few named has same others whole cut added =
    let o = map (point_at points) places.outer.items in
    let i = map (map (point_at points)) (inner_of places) in
    let corners : map (point_at points) all ≡ face_points o i = ap (map (point_at points)) whole ∙ (map-append (point_at points) places.outer.items (flat (inner_of places)) ∙ ap (λ (ps : List Point). o ++ ps) (map_flat (point_at points) (inner_of places))) in (
      map (row_at all) ears,
      record {
        outlined = face_outlined names (length points) face places named has;
        outer = o;
        inner = i;
        are_loops = record {
          outer_are = corners_named names points (outline face) places.outer.items named.outer;
          inner_are = zip_by (AllZip (NamesPoint names (length points))) (AreCorners names points) (map (point_at points)) (corners_named names points) (inner_loops face) (inner_of places) named.inner;
        };
        ears = ears;
        cut = ap (λ (ps : List Point). ears_of ps i) (sym same) ∙ (ap (ears_of outer) (sym others) ∙ cut);
        are_triangles = ears_triangles points all ears few ∙ ap (λ (cs : List Point). map (triangle_of cs) ears) corners;
      },
      added,
    )
