-- Each corner of the joined list stands at the point of its place.
use Rattle.std.proofs.Common.{◌≡◌, ◌∙◌, ap, sym, refl, subst, ℕ, zero, suc, ◌+◌, ◌<◌, Bool, true, false, cond, Some, List, [], ◌∷◌, ◌++◌, append_assoc, length, map, take, drop, get_or, arith}
use Rattle.std.specs.Prelude.{slice_index_or, reverse, pos, int_lt}
use Rattle.std.specs.List.{flat_map}
use Rattle.std.proofs.lemmas.List.{map-append, take-map, drop-map, get_or-map, get_or_at, length_push, length-append, length-map, reverse-append}
use Rattle.std.proofs.lemmas.List.Edits.{length-remove}
use Rattle.bim_model.specs.declared.geometry.Point.{Point}
use Rattle.ear_cut.specs.declared.polygon_view.View.{View}
use Rattle.ear_cut.specs.declared.corners.Corner.{Corner}
use Rattle.ear_cut.specs.Corners.{nobody, corners_from}
use Rattle.ear_cut.specs.Areas.{point_at}
use Rattle.ear_cut.proofs.Taken.{lift, lift_within, taken}
use Rattle.void_bridge.specs.HoleLoops.{points_of, loops_from, area_of, backwards, oriented}
use Rattle.void_bridge.specs.Bridges.{joined_at, join_by}
use Rattle.void_bridge.proofs.Kept.{joined_keeps}

-- the point at a corner's place
abbrev at_place : List Point → Corner → Point
at_place points c = point_at points c.place

-- each corner stands at the point of its place
abbrev pub ArePlaced : List Point → List Corner → Type 0
ArePlaced points cs = map (at_place points) cs ≡ points_of cs

-- .. in each of the loops
abbrev pub LoopsArePlaced : List Point → List (List Corner) → Type 0
LoopsArePlaced points loops = (k : ℕ) → k < length loops → ArePlaced points (slice_index_or loops k [])

abbrev point : Corner → Point
point c = c.point

-- ---- parts of lists
placed_append : (points : List Point) (xs ys : List Corner) → ArePlaced points xs → ArePlaced points ys → ArePlaced points (xs ++ ys)
placed_append points xs ys e f =
    map-append (at_place points) xs ys
    ∙ (ap (λ (l : List Point). l ++ map (at_place points) ys) e
    ∙ (ap (λ (l : List Point). points_of xs ++ l) f ∙ sym (map-append point xs ys)))

placed_take : (points : List Point) (n : ℕ) (xs : List Corner) → ArePlaced points xs → ArePlaced points (take n xs)
placed_take points n xs e = sym (take-map (at_place points) n xs) ∙ (ap (λ (l : List Point). take n l) e ∙ take-map point n xs)

placed_drop : (points : List Point) (n : ℕ) (xs : List Corner) → ArePlaced points xs → ArePlaced points (drop n xs)
placed_drop points n xs e = sym (drop-map (at_place points) n xs) ∙ (ap (λ (l : List Point). drop n l) e ∙ drop-map point n xs)

placed_one : (points : List Point) (xs : List Corner) (i : ℕ) → i < length xs → ArePlaced points xs → ArePlaced points (slice_index_or xs i nobody ∷ [])
placed_one points xs i h e =
    ap (λ (q : Point). q ∷ []) (sym (get_or-map (at_place points) xs i nobody nobody.point h) ∙ (ap (λ (l : List Point). get_or l i nobody.point) e ∙ get_or-map point xs i nobody nobody.point h))

placed_reverse : (points : List Point) (xs : List Corner) → ArePlaced points xs → ArePlaced points (reverse xs)
placed_reverse points [] e = refl
placed_reverse points (x ∷ xs) e =
    let first : at_place points x ≡ point x = cc e in
    let others : ArePlaced points xs = cc e in
    let one : ArePlaced points (x ∷ []) = ap (λ (q : Point). q ∷ []) first in
    subst (λ (l : List Corner). ArePlaced points l) (sym (reverse-append (x ∷ []) xs)) (placed_append points (reverse xs) (x ∷ []) (placed_reverse points xs others) one)

-- ---- a loop gone round as it is joined
placed_backwards : (points : List Point) (loop : List Corner) → ArePlaced points loop → ArePlaced points (backwards loop)
placed_backwards points loop e = placed_append points (take 1 loop) (reverse (drop 1 loop)) (placed_take points 1 loop e) (placed_reverse points (drop 1 loop) (placed_drop points 1 loop e))

placed_either : (points : List Point) (loop : List Corner) (b : Bool) → ArePlaced points loop → ArePlaced points (cond b (backwards loop) loop)
placed_either points loop true e = placed_backwards points loop e
placed_either points loop false e = e

placed_oriented : (points : List Point) (view : View) (loop : List Corner) → ArePlaced points loop → ArePlaced points (oriented view loop)
unfolding oriented
placed_oriented points view loop e = placed_either points loop (int_lt (pos 0) (area_of view (points_of loop))) e

-- ---- the loops of a face, with their places
-- the places of all its points, one loop after another
abbrev all_points : List (List Point) → List Point
all_points loops = flat_map (λ (loop : List Point). loop) loops

placed_from : (before ps after : List Point) → ArePlaced (before ++ (ps ++ after)) (corners_from (length before) ps)
placed_from before [] after = refl
placed_from before (p ∷ ps) after =
    let points = before ++ p ∷ (ps ++ after) in
    let others : ArePlaced points (corners_from (length before + 1) ps) =
    subst (λ (n : ℕ). ArePlaced points (corners_from n ps)) (length_push before p)
    (subst (λ (l : List Point). ArePlaced l (corners_from (length (before ++ p ∷ [])) ps)) (append_assoc before (p ∷ []) (ps ++ after)) (placed_from (before ++ p ∷ []) ps after)) in
    ap (λ (q : Point). q ∷ map (at_place points) (corners_from (length before + 1) ps)) (get_or_at before p (ps ++ after) nobody.point (length before) refl)
    ∙ ap (λ (l : List Point). p ∷ l) others

pub placed_outer : (outer : List Point) (inner : List (List Point)) → ArePlaced (outer ++ all_points inner) (corners_from 0 outer)
placed_outer outer inner = placed_from [] outer (all_points inner)

pub length-loops : (n : ℕ) (loops : List (List Point)) → length (loops_from n loops) ≡ length loops
length-loops n [] = refl
length-loops n (loop ∷ loops) = ap suc (length-loops (n + length loop) loops)

placed_loops : (before : List Point) (loops : List (List Point)) (k : ℕ) → k < length loops → ArePlaced (before ++ all_points loops) (slice_index_or (loops_from (length before) loops) k [])
placed_loops before [] k h = absurd (omega (arith, h))
placed_loops before (loop ∷ loops) zero h = placed_from before loop (all_points loops)
placed_loops before (loop ∷ loops) (suc k) h =
    let points = before ++ (loop ++ all_points loops) in
    subst (λ (n : ℕ). ArePlaced points (slice_index_or (loops_from n loops) k [])) (length-append before loop)
    (subst (λ (l : List Point). ArePlaced l (slice_index_or (loops_from (length (before ++ loop)) loops) k [])) (append_assoc before loop (all_points loops)) (placed_loops (before ++ loop) loops k (omega (arith, h))))

pub placed_inner : (view : View) (outer : List Point) (inner : List (List Point)) → LoopsArePlaced (outer ++ all_points inner) (map (oriented view) (loops_from (length outer) inner))
placed_inner view outer inner = λ k h.
    let points = outer ++ all_points inner in
    let loops = loops_from (length outer) inner in
    let l : k < length loops = within k (length (map (oriented view) loops)) (length loops) h (length-map loops (oriented view)) in
    let m : k < length inner = within k (length loops) (length inner) l (length-loops (length outer) inner) in
    subst (λ (cs : List Corner). ArePlaced points cs) (sym (get_or-map (oriented view) loops k [] [] l))
    (placed_oriented points view (slice_index_or loops k []) (placed_loops outer inner k m))
  where
    within : (k a b : ℕ) → k < a → a ≡ b → k < b
    within k a b h e = omega (arith, h, e)

-- ---- from bridge to bridge
placed_joined : (points : List Point) (current loop : List Corner) (i j : ℕ) → i < length current → j < length loop → ArePlaced points current → ArePlaced points loop → ArePlaced points (joined_at current i loop j)
unfolding joined_at
placed_joined points current loop i j h k e f =
    let p = slice_index_or current i nobody in let q = slice_index_or loop j nobody in
    let a = take (i + 1) current in let b = drop j loop in let c = take j loop in
    placed_append points (a ++ b ++ c ++ q ∷ [] ++ p ∷ []) (drop (i + 1) current)
    (placed_append points (a ++ b ++ c ++ q ∷ []) (p ∷ [])
    (placed_append points (a ++ b ++ c) (q ∷ [])
    (placed_append points (a ++ b) c
    (placed_append points a b (placed_take points (i + 1) current e) (placed_drop points j loop f))
    (placed_take points j loop f)) (placed_one points loop j k f)) (placed_one points current i h e)) (placed_drop points (i + 1) current e)

pub joined_is_placed : (points : List Point) (view : View) (n : ℕ) (current : List Corner) (loops : List (List Corner)) (list : List Corner)
    → length loops ≡ n → ArePlaced points current → LoopsArePlaced points loops → join_by view n current loops ≡ Some list → ArePlaced points list
joined_is_placed points view n current loops list m e f h =
    (joined_keeps (λ cs ls. ArePlaced points cs × LoopsArePlaced points ls)
    (λ cs ls b w p. (
      placed_joined points cs (slice_index_or ls b.hole []) b.from b.to w.from w.to p.0 (p.1 b.hole w.hole),
      λ k l. subst (λ (c : List Corner). ArePlaced points c) (sym (taken ls b.hole k [] w.hole))
          (p.1 (lift b.hole k) (lift_within (length ls) b.hole k (one_more k _ _ l (length-remove ls b.hole w.hole)))),
    ))
    view n current loops list m (e, f) h).0
  where
    one_more : (k a b : ℕ) → k < a → a + 1 ≡ b → k + 1 < b
    one_more k a b h e = omega (arith, h, e)
