-- How long the joined list is: each bridge adds two corners to those of the loops.
use Rattle.std.proofs.Common.{◌≡◌, ◌∙◌, ap, sym, refl, ℕ, zero, suc, ◌+◌, ◌*◌, ◌<◌, Bool, true, false, cond, List, [], ◌∷◌, ◌++◌, length, map, take, drop, Option, Some, None, arith}
use Rattle.std.specs.Prelude.{slice_index_or, remove, reverse, int_lt, pos}
use Rattle.std.specs.Option.{option_map, option_and_then}
use Rattle.std.proofs.lemmas.List.{length-append, length-map, length-reverse, take-append-drop}
use Rattle.bim_model.specs.declared.geometry.Point.{Point}
use Rattle.bim_model.specs.Polygons.{normal_of}
use Rattle.ear_cut.specs.declared.polygon_view.View.{View}
use Rattle.ear_cut.specs.declared.corners.Corner.{Corner}
use Rattle.ear_cut.specs.PolygonViews.{view_of}
use Rattle.ear_cut.specs.Corners.{nobody, corners_from}
use Rattle.ear_cut.proofs.Places.{length-corners}
use Rattle.void_bridge.specs.HoleLoops.{points_of, loops_from, area_of, backwards, oriented, corner_count}
use Rattle.void_bridge.specs.Bridges.{joined_at, join_by, joined_in, joined_of}
use Rattle.void_bridge.proofs.Kept.{joined_keeps}
use Rattle.void_bridge.proofs.PlacedCorners.{length-loops}

-- ---- one bridge
pub parts_length : (xs : List Corner) (n : ℕ) → length (take n xs) + length (drop n xs) ≡ length xs
parts_length xs n = sym (length-append (take n xs) (drop n xs)) ∙ ap length (take-append-drop n xs)

six_length : (a b c d e f : List Corner) → length (a ++ b ++ c ++ d ++ e ++ f) ≡ length a + length b + length c + length d + length e + length f
six_length a b c d e f =
    let p = length-append (a ++ b ++ c ++ d ++ e) f in
    let q = length-append (a ++ b ++ c ++ d) e in
    let r = length-append (a ++ b ++ c) d in
    let s = length-append (a ++ b) c in
    let t = length-append a b in
    omega (arith, p, q, r, s, t)

pub joined_length : (current loop : List Corner) (i j : ℕ) → length (joined_at current i loop j) ≡ length current + (length loop + 2)
unfolding joined_at
joined_length current loop i j =
    let whole = six_length (take (i + 1) current) (drop j loop) (take j loop) (slice_index_or loop j nobody ∷ []) (slice_index_or current i nobody ∷ []) (drop (i + 1) current) in
    let c = parts_length current (i + 1) in
    let l = parts_length loop j in
    omega (arith, whole, c, l)

-- ---- the loops that are left, each with the two corners of its bridge
abbrev to_add : List (List Corner) → ℕ
to_add [] = 0
to_add (loop ∷ loops) = (length loop + 2) + to_add loops

added_without : (loops : List (List Corner)) (k : ℕ) → k < length loops → (length (slice_index_or loops k []) + 2) + to_add (remove loops k) ≡ to_add loops
added_without [] k h = absurd (omega (arith, h))
added_without (loop ∷ loops) zero h = refl
added_without (loop ∷ loops) (suc k) h = let r = added_without loops k (omega (arith, h)) in omega (arith, r)

length_of_all : (view : View) (n : ℕ) (current : List Corner) (loops : List (List Corner)) (list : List Corner) → length loops ≡ n → join_by view n current loops ≡ Some list → length list ≡ length current + to_add loops
length_of_all view n current loops list m h =
    let end = joined_keeps (λ cs ls. length cs + to_add ls ≡ length current + to_add loops)
    (λ cs ls b w p.
    let j = joined_length cs (slice_index_or ls b.hole []) b.from b.to in
    let a = added_without ls b.hole w.hole in
    omega (arith, j, a, p))
    view n current loops list m refl h in
    omega (arith, end)

-- ---- the loops of a face
backwards_length : (loop : List Corner) → length (backwards loop) ≡ length loop
backwards_length loop =
    let a = length-append (take 1 loop) (reverse (drop 1 loop)) in
    let r = length-reverse (drop 1 loop) in
    let p = parts_length loop 1 in
    omega (arith, a, r, p)

oriented_length : (view : View) (loop : List Corner) → length (oriented view loop) ≡ length loop
unfolding oriented
oriented_length view loop = by_test (int_lt (pos 0) (area_of view (points_of loop)))
  where
    by_test : (b : Bool) → length (cond b (backwards loop) loop) ≡ length loop
    by_test true = backwards_length loop
    by_test false = refl

loops_to_add : (view : View) (n : ℕ) (inner : List (List Point)) → to_add (map (oriented view) (loops_from n inner)) ≡ corner_count inner + 2 * length inner
loops_to_add view n [] = refl
loops_to_add view n (loop ∷ loops) =
    let o = oriented_length view (corners_from n loop) in
    let c = length-corners n loop in
    let r = loops_to_add view (n + length loop) loops in
    omega (arith, o, c, r)

abbrev place : Corner → ℕ
place c = c.place

by_corners : (view : View) (outer : List Point) (inner : List (List Point)) (o : Option (List Corner)) (places : List ℕ) → joined_in view outer inner ≡ o → option_map (λ corners. map place corners) o ≡ Some places
    → length places ≡ length outer + corner_count inner + 2 * length inner
by_corners view outer inner None places f h = absurd (cc h)
by_corners view outer inner (Some corners) places f h =
    let g : map place corners ≡ places = cc h in
    let loops = map (oriented view) (loops_from (length outer) inner) in
    let m : length loops ≡ length inner = length-map (loops_from (length outer) inner) (oriented view) ∙ length-loops (length outer) inner in
    let l = length_of_all view (length inner) (corners_from 0 outer) loops corners m f in
    let t = loops_to_add view (length outer) inner in
    let c = length-corners 0 outer in
    let p = length-map corners place in
    let e = ap length g in
    omega (arith, l, t, c, p, e)

by_view : (outer : List Point) (inner : List (List Point)) (o : Option View) (places : List ℕ)
    → option_and_then (λ view. option_map (λ corners. map place corners) (joined_in view outer inner)) o ≡ Some places → length places ≡ length outer + corner_count inner + 2 * length inner
by_view outer inner None places h = absurd (cc h)
by_view outer inner (Some view) places h = by_corners view outer inner (joined_in view outer inner) places refl h

-- the joined list has a place for each corner, and two for each bridge
pub joined_count : (outer : List Point) (inner : List (List Point)) (places : List ℕ) → joined_of outer inner ≡ Some places → length places ≡ length outer + corner_count inner + 2 * length inner
unfolding joined_of
joined_count outer inner places h = by_view outer inner (view_of (normal_of outer)) places h
