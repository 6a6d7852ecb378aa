-- The corners of the loops, of the current list and of the loops that are left lie on the grid.
use Rattle.std.proofs.Common.{◌≡◌, sym, refl, subst, ℕ, suc, ◌+◌, ◌-◌, ◌<◌, ◌≤◌, Bool, true, false, cond, List, [], ◌∷◌, ◌++◌, length, map, take, drop, arith}
use Rattle.std.specs.Prelude.{slice_index_or, remove, reverse, All, pos, int_lt}
use Rattle.std.proofs.lemmas.List.{get_or-reverse, length-reverse}
use Rattle.std.proofs.lemmas.List.Elements.{All-nil, All-cons, All-head, All-tail, All-append, All-push, All-take, All-drop}
use Rattle.bim_model.specs.declared.geometry.Point.{Point}
use Rattle.bim_model.specs.Points.{IsGridPoint}
use Rattle.ear_cut.specs.declared.polygon_view.View.{View}
use Rattle.ear_cut.specs.declared.corners.Corner.{Corner}
use Rattle.ear_cut.specs.Corners.{nobody, corners_from, AreInGrid}
use Rattle.void_bridge.specs.declared.bridges.Bridge.{Bridge}
use Rattle.void_bridge.specs.HoleLoops.{points_of, loops_from, area_of, backwards, oriented, IsLoop, AreLoops}
use Rattle.void_bridge.specs.Bridges.{IsBridgeIn, joined_at, joined_by}

abbrev IsPlaced : Corner → Type 0
IsPlaced c = IsGridPoint c.point

-- ---- the loops as they are given
from_in_grid : (n : ℕ) (ps : List Point) → All IsGridPoint ps → All IsPlaced (corners_from n ps)
from_in_grid n [] h = All-nil IsPlaced
from_in_grid n (p ∷ ps) h = All-cons IsPlaced (record { place = n; point = p }) (corners_from (n + 1) ps) (All-head IsGridPoint p ps h) (from_in_grid (n + 1) ps (All-tail IsGridPoint p ps h))

pub outer_in_grid : (n : ℕ) (ps : List Point) (cs : List Corner) → cs ≡ corners_from n ps → All IsGridPoint ps → AreInGrid cs
unfolding AreInGrid
outer_in_grid n ps cs e h = subst (λ (l : List Corner). All IsPlaced l) (sym e) (from_in_grid n ps h)

-- ---- the other way round
reversed_in_grid : (cs : List Corner) → All IsPlaced cs → All IsPlaced (reverse cs)
reversed_in_grid cs h = λ k d l.
    let w : k < length cs = omega (arith, l, length-reverse cs) in
    subst IsPlaced (sym (get_or-reverse cs k d w)) (h (length cs - 1 - k) d (omega (arith, w)))

either_in_grid : (cs : List Corner) (b : Bool) → All IsPlaced cs → All IsPlaced (cond b (backwards cs) cs)
either_in_grid cs true h = All-append IsPlaced (take 1 cs) (reverse (drop 1 cs)) (All-take IsPlaced 1 cs h) (reversed_in_grid (drop 1 cs) (All-drop IsPlaced 1 cs h))
either_in_grid cs false h = h

oriented_in_grid : (view : View) (cs : List Corner) → AreInGrid cs → AreInGrid (oriented view cs)
unfolding AreInGrid oriented
oriented_in_grid view cs h = either_in_grid cs (int_lt (pos 0) (area_of view (points_of cs))) h

-- ---- all loops
loops_in_grid : (view : View) (n : ℕ) (loops : List (List Point)) → AreLoops loops → All AreInGrid (map (oriented view) (loops_from n loops))
loops_in_grid view n [] h = All-nil AreInGrid
loops_in_grid view n (loop ∷ loops) h =
    All-cons AreInGrid (oriented view (corners_from n loop)) (map (oriented view) (loops_from (n + length loop) loops))
    (oriented_in_grid view (corners_from n loop) (outer_in_grid n loop (corners_from n loop) refl (All-head IsLoop loop loops h).in_grid))
    (loops_in_grid view (n + length loop) loops (All-tail IsLoop loop loops h))

pub holes_in_grid : (view : View) (n : ℕ) (loops : List (List Point)) (holes : List (List Corner)) → holes ≡ map (oriented view) (loops_from n loops) → AreLoops loops → All AreInGrid holes
holes_in_grid view n loops holes e h = subst (λ (l : List (List Corner)). All AreInGrid l) (sym e) (loops_in_grid view n loops h)

-- ---- no loop is empty
from_some : (n : ℕ) (ps : List Point) → 0 < length ps → 0 < length (corners_from n ps)
from_some n [] h = h
from_some n (p ∷ ps) h = omega arith

either_some : (cs : List Corner) (b : Bool) → 0 < length cs → 0 < length (cond b (backwards cs) cs)
either_some [] true h = absurd (omega (arith, h))
either_some (c ∷ cs) true h = omega arith
either_some cs false h = h

oriented_some : (view : View) (cs : List Corner) → 0 < length cs → 0 < length (oriented view cs)
unfolding oriented
oriented_some view cs h = either_some cs (int_lt (pos 0) (area_of view (points_of cs))) h

abbrev pub IsSome : List Corner → Type 0
IsSome cs = 0 < length cs

loops_some : (view : View) (n : ℕ) (loops : List (List Point)) → AreLoops loops → All IsSome (map (oriented view) (loops_from n loops))
loops_some view n [] h = All-nil IsSome
loops_some view n (loop ∷ loops) h =
    All-cons IsSome (oriented view (corners_from n loop)) (map (oriented view) (loops_from (n + length loop) loops))
    (oriented_some view (corners_from n loop) (from_some n loop (three_some (length loop) (All-head IsLoop loop loops h).three)))
    (loops_some view (n + length loop) loops (All-tail IsLoop loop loops h))
  where
    three_some : (n : ℕ) → 3 ≤ n → 0 < n
    three_some n h = omega (arith, h)

pub holes_some : (view : View) (n : ℕ) (loops : List (List Point)) (holes : List (List Corner)) → holes ≡ map (oriented view) (loops_from n loops) → AreLoops loops → All IsSome holes
holes_some view n loops holes e h = subst (λ (l : List (List Corner)). All IsSome l) (sym e) (loops_some view n loops h)

pub outer_some : (n : ℕ) (ps : List Point) (cs : List Corner) → cs ≡ corners_from n ps → 3 ≤ length ps → 0 < length cs
outer_some n ps cs e h = subst IsSome (sym e) (from_some n ps (omega (arith, h)))

-- ---- after a bridge
joined_in_grid : (current loop : List Corner) (i j : ℕ) → i < length current → j < length loop → AreInGrid current → AreInGrid loop → AreInGrid (joined_at current i loop j)
unfolding AreInGrid joined_at
joined_in_grid current loop i j h k e f =
    let p = slice_index_or current i nobody in let q = slice_index_or loop j nobody in
    let a = take (i + 1) current in let b = drop j loop in let c = take j loop in
    All-append IsPlaced (a ++ b ++ c ++ q ∷ [] ++ p ∷ []) (drop (i + 1) current)
    (All-push IsPlaced (a ++ b ++ c ++ q ∷ []) p
    (All-push IsPlaced (a ++ b ++ c) q
    (All-append IsPlaced (a ++ b) c
    (All-append IsPlaced a b (All-take IsPlaced (i + 1) current e) (All-drop IsPlaced j loop f))
    (All-take IsPlaced j loop f)) (f j nobody k)) (e i nobody h)) (All-drop IsPlaced (i + 1) current e)

pub bridged_in_grid : (current : List Corner) (loops : List (List Corner)) (b : Bridge) → IsBridgeIn current loops b → AreInGrid current → All AreInGrid loops → AreInGrid (joined_by current loops b)
bridged_in_grid current loops b w e f = joined_in_grid current (slice_index_or loops b.hole []) b.from b.to w.from w.to e (f b.hole [] w.hole)

pub left_in_grid : (loops : List (List Corner)) (k : ℕ) → All AreInGrid loops → All AreInGrid (remove loops k)
left_in_grid loops k h = All-append AreInGrid (take k loops) (drop (suc k) loops) (All-take AreInGrid k loops h) (All-drop AreInGrid (suc k) loops h)
