-- The loops of a face: their corners one after another, and how many they are.
use Rattle.std.proofs.Common.{◌≡◌, ℕ, suc, ◌+◌, ◌*◌, ◌<◌, ◌≤◌, List, [], ◌∷◌, ◌++◌, length, map, sum_by, Option, Some, None, refl, ap, ◌∙◌, arith}
use Rattle.std.specs.Option.{option_map, option_and_then}
use Rattle.std.specs.List.{AllZip, All, flat_map}
use Rattle.std.proofs.lemmas.List.{length-append, length-map}
use Rattle.std.proofs.lemmas.List.Sums.{sum_by-cons}
use Rattle.std.proofs.lemmas.List.Elements.{All-cons}
use Rattle.p21_values.specs.declared.value.Value21.{Value21}
use Rattle.p21_values.specs.declared.value.Instance.{Instance}
use Rattle.bim_model.specs.declared.geometry.Point.{Point}
use Rattle.bim_model.specs.declared.geometry.Triangle.{Triangle}
use Rattle.ear_cut.specs.declared.ears.Ear.{Ear}
use Rattle.ear_cut.specs.Areas.{point_at}
use Rattle.ear_cut.specs.Removal.{cut_of}
use Rattle.ear_cut.proofs.AreaSum.{count_of_ears}
use Rattle.void_bridge.specs.HoleLoops.{corner_count, AreLoops}
use Rattle.void_bridge.specs.Bridges.{points_at, joined_of}
use Rattle.void_bridge.proofs.JoinedCounts.{joined_count}
use Rattle.faceset.specs.FacePolygons.{face_points, ear_by, ears_by, ears_of, AreApart}
use Rattle.faceset.specs.FaceSets.{IsCorner, AreCorners, AreLoopsOf, IsCut, IsStuck, IsUnbridged, outline, inner_loops, all_corners, loop_count, face_count, triangle_of}
use Rattle.faceset.proofs.Zips.{zip_length, zip_append, zip_flat}

-- ---- one loop after another
abbrev pub flat : {X : Type 0} → List (List X) → List X
flat {X} xss = flat_map (λ (xs : List X). xs) xss

-- the corners of the loops are all corners of the face
pub all_cornered : (numbers : Option (List Value21)) (points : List Point) (face : Instance) (outer : List Point) (inner : List (List Point)) → AreLoopsOf numbers points face outer inner
    → AreCorners numbers points (all_corners face) (face_points outer inner)
all_cornered numbers points face outer inner are =
    zip_append (IsCorner numbers points) (outline face) (flat (inner_loops face)) outer (flat inner) are.outer_are (zip_flat (IsCorner numbers points) (inner_loops face) inner are.inner_are)

-- ---- how many
pub flat_length : (loops : List (List Point)) → length (flat loops) ≡ corner_count loops
flat_length [] = refl
flat_length (loop ∷ loops) = let a = length-append loop (flat loops) in let r = flat_length loops in omega (arith, a, r)

-- loops have at most a third as many bridges as corners
pub loops_few : (loops : List (List Point)) → AreLoops loops → 3 * length loops ≤ corner_count loops
loops_few [] all = omega arith
loops_few (loop ∷ loops) all =
    let h = (all 0 loop (omega arith)).three in
    let r = loops_few loops (λ k d lt. all (suc k) d (omega (arith, lt))) in
    omega (arith, h, r)

-- what the inner loops add, by their indexes and by their corners
pub loops_count : (R : Value21 → Point → Type 0) (xss : List (List Value21)) (loops : List (List Point)) → AllZip (AllZip R) xss loops → sum_by loop_count xss ≡ corner_count loops + 2 * length loops
loops_count R [] [] are = refl
loops_count R [] (loop ∷ loops) are = absurd are
loops_count R (xs ∷ xss) [] are = absurd are
loops_count R (xs ∷ xss) (loop ∷ loops) are =
    let s = sum_by-cons loop_count xs xss in
    let l = zip_length R xs loop are.0 in
    let r = loops_count R xss loops are.1 in
    omega (arith, s, l, r)

-- .. and each has as many corners as indexes
pub loops_long : (R : Value21 → Point → Type 0) (xss : List (List Value21)) (loops : List (List Point)) → AllZip (AllZip R) xss loops → AreLoops loops → All (λ (xs : List Value21). 2 < length xs) xss
loops_long R [] loops are all = λ k d lt. absurd (omega (arith, lt))
loops_long R (xs ∷ xss) [] are all = absurd are
loops_long R (xs ∷ xss) (loop ∷ loops) are all =
    All-cons (λ (xs : List Value21). 2 < length xs) xs xss (let l = zip_length R xs loop are.0 in let h = (all 0 loop (omega arith)).three in omega (arith, l, h))
    (loops_long R xss loops are.1 (λ k d lt. all (suc k) d (omega (arith, lt))))

-- ---- the triangles of loops
joined_counted : (outer : List Point) (inner : List (List Point)) (list : List ℕ) (ears : List Ear) → 3 ≤ length outer → joined_of outer inner ≡ Some list → ears_by outer inner list ≡ Some ears
    → length ears + 2 ≡ length outer + (corner_count inner + 2 * length inner)
unfolding ears_by
joined_counted outer inner list ears is joined cut = by_cut (cut_of (points_at outer inner list)) refl cut
  where
    by_cut : (o : Option (List Ear)) → cut_of (points_at outer inner list) ≡ o → option_map (map (ear_by list)) o ≡ Some ears → length ears + 2 ≡ length outer + (corner_count inner + 2 * length inner)
    by_cut None e h = absurd (cc h)
    by_cut (Some made) e h =
        let same : map (ear_by list) made ≡ ears = cc h in
        let m = ap length same in
        let n = length-map made (ear_by list) in
        let count = joined_count outer inner list joined in
        let p = length-map list (point_at (outer ++ flat inner)) in
        let k = count_of_ears (points_at outer inner list) made (omega (arith, p, count, is)) e in
        omega (arith, m, n, count, p, k)

pub ears_counted : (outer : List Point) (inner : List (List Point)) (ears : List Ear) → 3 ≤ length outer → ears_of outer inner ≡ Some ears → length ears + 2 ≡ length outer + (corner_count inner + 2 * length inner)
ears_counted outer [] ears is cut = let k = count_of_ears outer ears is cut in omega (arith, k)
ears_counted outer (loop ∷ loops) ears is cut = by_list (joined_of outer (loop ∷ loops)) refl cut
  where
    by_list : (o : Option (List ℕ)) → joined_of outer (loop ∷ loops) ≡ o → option_and_then (ears_by outer (loop ∷ loops)) o ≡ Some ears → length ears + 2 ≡ length outer + (corner_count (loop ∷ loops) + 2 * length (loop ∷ loops))
    by_list None e h = absurd (cc h)
    by_list (Some list) e h = joined_counted outer (loop ∷ loops) list ears is e h

-- loops that can't be joined have none
pub apart_stuck : (outer : List Point) (inner : List (List Point)) → AreApart outer inner → ears_of outer inner ≡ None
apart_stuck outer [] apart = absurd apart
apart_stuck outer (loop ∷ loops) apart = ap (option_and_then (ears_by outer (loop ∷ loops))) apart

pub unbridged_stuck : (numbers : Option (List Value21)) (points : List Point) (face : Instance) → IsUnbridged numbers points face → IsStuck numbers points face
unbridged_stuck numbers points face u = record {
  outlined = u.outlined;
  outer = u.outer;
  inner = u.inner;
  are_loops = u.are_loops;
  stuck = apart_stuck u.outer u.inner u.apart;
}

-- a face that is cut has as many triangles as are counted of it
pub cut_count : (numbers : Option (List Value21)) (points : List Point) (face : Instance) (ts : List Triangle) → IsCut numbers points face ts → length ts ≡ face_count face
cut_count numbers points face ts c =
    let l = zip_length (IsCorner numbers points) (outline face) c.outer c.are_loops.outer_are in
    let least = c.outlined.outer in
    let i = loops_count (IsCorner numbers points) (inner_loops face) c.inner c.are_loops.inner_are in
    let many = ap length c.are_triangles ∙ length-map c.ears (triangle_of (face_points c.outer c.inner)) in
    let ears = ears_counted c.outer c.inner c.ears (omega (arith, least, l)) c.cut in
    omega (arith, l, least, i, many, ears)
