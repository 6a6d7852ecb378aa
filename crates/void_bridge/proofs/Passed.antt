-- Edges with which a bridge collides, and runs of edges with none of which it does.
use Rattle.std.proofs.Common.{◌≡◌, ◌∙◌, ap, sym, subst, ℕ, ◌+◌, ◌*◌, ◌<◌, ◌≤◌, inl, inr, true, false, List, length, map, get_or, arith}
use Rattle.std.specs.Prelude.{slice_index_or}
use Rattle.std.specs.List.{list_any}
use Rattle.std.proofs.lemmas.Bool.{cases_lt}
use Rattle.std.proofs.lemmas.List.{get_or-map, length-map}
use Rattle.std.proofs.lemmas.List.Elements.{All-from_get_or}
use Rattle.std.proofs.lemmas.List.Folds.{list_any_at, list_any_none}
use Rattle.ear_cut.specs.declared.polygon_view.View.{View}
use Rattle.void_bridge.specs.declared.barriers.Edge.{Edge}
use Rattle.void_bridge.specs.declared.barriers.Frame.{Frame}
use Rattle.void_bridge.specs.LoopEdges.{Segment, collide}
use Rattle.void_bridge.specs.inner.Barriers.{as_segment, run, point_frame, point_segment, are_apart, IsFramed, AreFramed, IsPassed}
use Rattle.void_bridge.proofs.Crossings.{apart_passes}

pub none_blocks : (view : View) (bridge : Segment) (edges : List Segment) → ((k : ℕ) → k < length edges → IsPassed view bridge edges k) → list_any (collide view bridge) edges ≡ false
none_blocks view bridge edges h = list_any_none (collide view bridge) edges (All-from_get_or (λ (s : Segment). collide view bridge s ≡ false) edges point_segment h)

-- the i-th of the edges that are kept
segment_at : (edges : List Edge) (i : ℕ) (e : Edge) → i < length edges → e ≡ get_or edges i e → slice_index_or (map as_segment edges) i point_segment ≡ as_segment e
segment_at edges i e h f = get_or-map as_segment edges i e point_segment h ∙ ap as_segment (sym f)

pub blocked_at : (view : View) (bridge : Segment) (edges : List Edge) (i : ℕ) (e : Edge) → i < length edges → e ≡ get_or edges i e → collide view bridge (as_segment e) ≡ true → list_any (collide view bridge) (map as_segment edges) ≡ true
blocked_at view bridge edges i e h f t =
    let n = length-map edges as_segment in
    list_any_at (collide view bridge) (map as_segment edges) i point_segment (omega (arith, h, n)) (ap (collide view bridge) (segment_at edges i e h f) ∙ t)

pub passed_at : (view : View) (bridge : Segment) (edges : List Edge) (i : ℕ) (e : Edge) → i < length edges → e ≡ get_or edges i e → collide view bridge (as_segment e) ≡ false → IsPassed view bridge (map as_segment edges) i
passed_at view bridge edges i e h f t = ap (collide view bridge) (segment_at edges i e h f) ∙ t

-- one edge more is passed
pub passed_more : (view : View) (bridge : Segment) (edges : List Segment) (a i : ℕ) → ((k : ℕ) → a ≤ k → k < i → IsPassed view bridge edges k) → IsPassed view bridge edges i → (k : ℕ) → a ≤ k → k < i + 1 → IsPassed view bridge edges k
passed_more view bridge edges a i h p k l m =
    elim (cases_lt k i) [
      | inl o ↦ h k l o
      | inr o ↦ let e : k ≡ i = omega (arith, m, o) in subst (IsPassed view bridge edges) (sym e) p
    ]

-- the edges of a run whose frame is apart from the bridge's
pub run_passed : (view : View) (bridge : Segment) (frames : List Frame) (edges : List Segment) (g : Frame) (b : ℕ) → AreFramed frames edges → are_apart (slice_index_or frames b point_frame) g ≡ true → IsFramed g bridge
    → ((k : ℕ) → k < run * b → k < length edges → IsPassed view bridge edges k) → (k : ℕ) → k < run * (b + 1) → k < length edges → IsPassed view bridge edges k
run_passed view bridge frames edges g b r a h before k m n =
    elim (cases_lt k (run * b)) [
      | inl o ↦ before k o n
      | inr o ↦ apart_passes view bridge (slice_index_or edges k point_segment) (slice_index_or frames b point_frame) g a (r.each b k o (omega (arith, m)) n) h
    ]

-- the edges of a run that were asked one by one
pub run_asked : (view : View) (bridge : Segment) (edges : List Segment) (b end : ℕ) → ((k : ℕ) → run * b ≤ k → k < end → IsPassed view bridge edges k)
    → ((k : ℕ) → k < length edges → k < run * b + run → k < end)
    → ((k : ℕ) → k < run * b → k < length edges → IsPassed view bridge edges k) → (k : ℕ) → k < run * (b + 1) → k < length edges → IsPassed view bridge edges k
run_asked view bridge edges b end asked within before k m n =
    elim (cases_lt k (run * b)) [
      | inl o ↦ before k o n
      | inr o ↦ asked k o (within k n (omega (arith, m)))
    ]
