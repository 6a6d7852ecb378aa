-- Frames round runs of edges, as the edges come one by one.
use Rattle.std.proofs.Common.{◌≡◌, ◌∙◌, ap, sym, subst, inl, inr, ℕ, ◌+◌, ◌*◌, ◌<◌, List, [], ◌∷◌, ◌++◌, length, set, arith}
use Rattle.std.specs.Prelude.{slice_index_or}
use Rattle.std.proofs.lemmas.Bool.{cases_lt, cases_eq}
use Rattle.std.proofs.lemmas.List.{get_or_append_left, get_or_push, get_or-set_same, get_or-set_other, length_push, length-set}
use Rattle.ear_cut.specs.PolygonViews.{Spot}
use Rattle.void_bridge.specs.declared.barriers.Frame.{Frame}
use Rattle.void_bridge.specs.LoopEdges.{Segment}
use Rattle.void_bridge.specs.inner.Barriers.{run, point_frame, point_segment, IsInFrame, IsFramed, AreFramed}

pub framed_none : AreFramed [] []
framed_none = record { enough = omega arith; least = omega arith; each = λ b k l m n. absurd (omega (arith, n)) }

framed_as : (f g : Frame) (s t : Segment) → g ≡ f → t ≡ s → IsFramed f s → IsFramed g t
framed_as f g s t e d h = subst (λ (x : Frame). IsFramed x t) (sym e) (subst (λ (y : Segment). IsFramed f y) (sym d) h)

-- the first edge of a run
pub framed_begun : (frames : List Frame) (edges : List Segment) (f : Frame) (s : Segment) (q : ℕ) → length edges ≡ run * q → IsFramed f s → AreFramed frames edges → AreFramed (frames ++ f ∷ []) (edges ++ s ∷ [])
framed_begun frames edges f s q e h r =
    let n = length_push edges s in
    let m = length_push frames f in
    let full : length frames ≡ q = omega (arith, e, r.enough, r.least) in
    record {
      enough = omega (arith, n, m, full, e);
      least = omega (arith, n, m, full, e);
      each = λ b k l o p. elim (cases_lt k (length edges)) [
        | inl t ↦ let w : b < length frames = omega (arith, full, e, l, t) in
            framed_as (slice_index_or frames b point_frame) (slice_index_or (frames ++ f ∷ []) b point_frame) (slice_index_or edges k point_segment) (slice_index_or (edges ++ s ∷ []) k point_segment)
            (get_or_append_left frames (f ∷ []) point_frame b w) (get_or_append_left edges (s ∷ []) point_segment k t) (r.each b k l o t)
        | inr t ↦ let u : length edges ≡ k = omega (arith, n, p, t) in let v : length frames ≡ b = omega (arith, full, e, l, o, u) in
            framed_as f (slice_index_or (frames ++ f ∷ []) b point_frame) s (slice_index_or (edges ++ s ∷ []) k point_segment)
            (get_or_push frames f point_frame b v) (get_or_push edges s point_segment k u) h
      ];
    }

widened_old : (f g : Frame) (s : Segment) → ((q : Spot) → IsInFrame f q → IsInFrame g q) → IsFramed f s → IsFramed g s
widened_old f g s w h = record { a_in = w s.a h.a_in; b_in = w s.b h.b_in }

-- one edge more in a run, whose frame is widened to it
pub framed_more : (frames : List Frame) (edges : List Segment) (f : Frame) (s : Segment) (a : ℕ) → run * a < length edges → length edges < run * a + run → IsFramed f s → ((q : Spot) → IsInFrame (slice_index_or frames a point_frame) q → IsInFrame f q) → AreFramed frames edges → AreFramed (set frames a f) (edges ++ s ∷ [])
framed_more frames edges f s a h g i w r =
    let n = length_push edges s in
    let m = length-set frames a f in
    let in_frames : a < length frames = omega (arith, h, r.enough) in
    record {
      enough = omega (arith, n, m, g, in_frames);
      least = omega (arith, n, m, r.least);
      each = λ b k l o p. elim (cases_eq b a) [
        | inl e ↦
            let there = ap (λ (j : ℕ). slice_index_or (set frames a f) j point_frame) e ∙ get_or-set_same frames a f point_frame in_frames in
            elim (cases_lt k (length edges)) [
              | inl t ↦ framed_as f (slice_index_or (set frames a f) b point_frame) (slice_index_or edges k point_segment) (slice_index_or (edges ++ s ∷ []) k point_segment)
                  there (get_or_append_left edges (s ∷ []) point_segment k t)
                  (widened_old (slice_index_or frames a point_frame) f (slice_index_or edges k point_segment) w (r.each a k (omega (arith, e, l)) (omega (arith, e, o)) t))
              | inr t ↦ let u : length edges ≡ k = omega (arith, n, p, t) in
                  framed_as f (slice_index_or (set frames a f) b point_frame) s (slice_index_or (edges ++ s ∷ []) k point_segment) there (get_or_push edges s point_segment k u) i
            ]
        | inr e ↦ let t : k < length edges = omega (arith, e, l, o, p, n, h, g) in
            framed_as (slice_index_or frames b point_frame) (slice_index_or (set frames a f) b point_frame) (slice_index_or edges k point_segment) (slice_index_or (edges ++ s ∷ []) k point_segment)
            (get_or-set_other frames a b f point_frame e) (get_or_append_left edges (s ∷ []) point_segment k t) (r.each b k l o t)
      ];
    }
