-- The area of the joined list is that of the outer loop and of the inner ones together.
use Rattle.std.proofs.Common.{◌≡◌, ◌∙◌, ap, sym, refl, subst, ℕ, zero, suc, ◌+◌, ◌<◌, ℤ, ◌+ℤ◌, List, [], ◌∷◌, ◌++◌, length, map, Option, Some, None, arith}
use Rattle.std.specs.Prelude.{slice_index_or, remove}
use Rattle.std.specs.List.{flat_map}
use Rattle.std.specs.Option.{option_map, option_and_then}
use Rattle.std.proofs.lemmas.List.{length-map}
use Rattle.std.proofs.lemmas.Int.{ints}
use Rattle.bim_model.specs.declared.geometry.Point.{Point}
use Rattle.bim_model.specs.Polygons.{normal_of}
use Rattle.exact_arith.specs.Space.{Vector, plus}
use Rattle.ear_cut.specs.declared.polygon_view.View.{View}
use Rattle.ear_cut.specs.declared.corners.Corner.{Corner}
use Rattle.ear_cut.specs.PolygonViews.{view_of}
use Rattle.ear_cut.specs.Corners.{corners_from}
use Rattle.ear_cut.specs.Areas.{point_at}
use Rattle.ear_cut.proofs.Parts.{same_vector}
use Rattle.ear_cut.proofs.Newell.{plus_assoc}
use Rattle.void_bridge.specs.HoleLoops.{points_of, loops_from, oriented, normals_of}
use Rattle.void_bridge.specs.Bridges.{join_by, joined_in, joined_of, points_at, IsAreaSum}
use Rattle.void_bridge.proofs.Detours.{plus_nothing, normal_of_joined}
use Rattle.void_bridge.proofs.Kept.{joined_keeps}
use Rattle.void_bridge.proofs.PlacedCorners.{length-loops, placed_outer, placed_inner, joined_is_placed}

-- ---- the sum of the loops that are left, without one of them
swapped : (a b c : ℤ) → a +ℤ (b +ℤ c) ≡ b +ℤ (a +ℤ c)
swapped a b c = omega (arith, ints)

plus_swapped : (a b c : Vector) → plus a (plus b c) ≡ plus b (plus a c)
plus_swapped a b c = same_vector _ _ _ _ _ _ (swapped a.x b.x c.x) (swapped a.y b.y c.y) (swapped a.z b.z c.z)

normals_without : (loops : List (List Corner)) (k : ℕ) → k < length loops → plus (normal_of (points_of (slice_index_or loops k []))) (normals_of (remove loops k)) ≡ normals_of loops
normals_without [] k h = absurd (omega (arith, h))
normals_without (loop ∷ loops) zero h = refl
normals_without (loop ∷ loops) (suc k) h =
    plus_swapped (normal_of (points_of (slice_index_or loops k []))) (normal_of (points_of loop)) (normals_of (remove loops k))
    ∙ ap (λ (v : Vector). plus (normal_of (points_of loop)) v) (normals_without loops k (omega (arith, h)))

-- ---- from bridge to bridge
pub normal_of_all : (view : View) (n : ℕ) (current : List Corner) (loops : List (List Corner)) (list : List Corner) → length loops ≡ n → join_by view n current loops ≡ Some list → normal_of (points_of list) ≡ plus (normal_of (points_of current)) (normals_of loops)
normal_of_all view n current loops list m h =
    let total = plus (normal_of (points_of current)) (normals_of loops) in
    sym (plus_nothing (normal_of (points_of list)))
    ∙ joined_keeps (λ cs ls. plus (normal_of (points_of cs)) (normals_of ls) ≡ total)
    (λ cs ls b w p.
    let loop = slice_index_or ls b.hole [] in
    ap (λ (v : Vector). plus v (normals_of (remove ls b.hole))) (normal_of_joined cs loop b.from b.to w.from w.to)
    ∙ (plus_assoc (normal_of (points_of cs)) (normal_of (points_of loop)) (normals_of (remove ls b.hole))
    ∙ (ap (λ (v : Vector). plus (normal_of (points_of cs)) v) (normals_without ls b.hole w.hole) ∙ p)))
    view n current loops list m refl h

-- ---- by places
map_twice : {X Y Z : Type 0} (f : Y → Z) (g : X → Y) (xs : List X) → map f (map g xs) ≡ map (λ (x : X). f (g x)) xs
map_twice f g [] = refl
map_twice {X} {Y} {Z} f g (x ∷ xs) = ap (λ (l : List Z). f (g x) ∷ l) (map_twice f g xs)

pub points_of_outer : (n : ℕ) (points : List Point) → points_of (corners_from n points) ≡ points
points_of_outer n [] = refl
points_of_outer n (p ∷ ps) = ap (λ (l : List Point). p ∷ l) (points_of_outer (n + 1) ps)

abbrev place : Corner → ℕ
place c = c.place

sum_of_places : (view : View) (outer : List Point) (inner : List (List Point)) (corners : List Corner) → joined_in view outer inner ≡ Some corners
    → normal_of (points_at outer inner (map place corners)) ≡ plus (normal_of outer) (normals_of (map (oriented view) (loops_from (length outer) inner)))
sum_of_places view outer inner corners h =
    let points = outer ++ flat_map (λ (loop : List Point). loop) inner in
    let loops = map (oriented view) (loops_from (length outer) inner) in
    let m : length loops ≡ length inner = length-map (loops_from (length outer) inner) (oriented view) ∙ length-loops (length outer) inner in
    let placed = joined_is_placed points view (length inner) (corners_from 0 outer) loops corners m (placed_outer outer inner) (placed_inner view outer inner) h in
    ap normal_of (map_twice (point_at points) place corners ∙ placed)
    ∙ (normal_of_all view (length inner) (corners_from 0 outer) loops corners m h
    ∙ ap (λ (v : Vector). plus v (normals_of loops)) (ap normal_of (points_of_outer 0 outer)))

by_corners : (view : View) (outer : List Point) (inner : List (List Point)) (o : Option (List Corner)) (places : List ℕ) → view_of (normal_of outer) ≡ Some view → joined_in view outer inner ≡ o → option_map (λ corners. map place corners) o ≡ Some places → IsAreaSum outer inner places
by_corners view outer inner None places e f h = absurd (cc h)
by_corners view outer inner (Some corners) places e f h =
    let g : map place corners ≡ places = cc h in
    subst (λ (l : List ℕ). IsAreaSum outer inner l) g (record { view = view; view_is = e; sum = sum_of_places view outer inner corners f })

by_view : (outer : List Point) (inner : List (List Point)) (o : Option View) (places : List ℕ) → view_of (normal_of outer) ≡ o
    → option_and_then (λ view. option_map (λ corners. map place corners) (joined_in view outer inner)) o ≡ Some places → IsAreaSum outer inner places
by_view outer inner None places e h = absurd (cc h)
by_view outer inner (Some view) places e h = by_corners view outer inner (joined_in view outer inner) places e refl h

pub areas_add_up : (outer : List Point) (inner : List (List Point)) (places : List ℕ) → joined_of outer inner ≡ Some places → IsAreaSum outer inner places
unfolding joined_of
areas_add_up outer inner places h = by_view outer inner (view_of (normal_of outer)) places refl h
