-- Frames round what is left of runs of corners.
use Rattle.std.proofs.Common.{◌≡◌, sym, subst, inl, inr, ℕ, ◌+◌, ◌*◌, ◌<◌, ◌≤◌, true, List, length, Some, arith}
use Rattle.std.specs.Prelude.{slice_index_or, remove}
use Rattle.std.proofs.lemmas.Bool.{cases_lt}
use Rattle.std.proofs.lemmas.Bool.Decides.{nat_tests}
use Rattle.std.proofs.lemmas.List.Edits.{length-remove}
use Rattle.ear_cut.specs.declared.polygon_view.View.{View}
use Rattle.ear_cut.specs.declared.corners.Corner.{Corner}
use Rattle.ear_cut.specs.declared.corners.Turn.{Turn}
use Rattle.ear_cut.specs.declared.corners.Angle.TheVariants.{Convex}
use Rattle.ear_cut.specs.declared.corner_frames.Frame.{Frame}
use Rattle.ear_cut.specs.declared.corner_frames.Frames.{Frames}
use Rattle.ear_cut.specs.PolygonViews.{Spot, seen}
use Rattle.ear_cut.specs.Corners.{nobody, angle_of}
use Rattle.ear_cut.specs.Removal.{is_free}
use Rattle.ear_cut.specs.inner.CornerFrames.{run, point_frame, IsIn, is_apart, IsRound, AreRound, AreFrames, AreFramesBefore}
use Rattle.ear_cut.proofs.Taken.{lift, lift_within, taken}
use Rattle.ear_cut.proofs.Apart.{apart_free}

-- a corner more
pub round_more : (view : View) (left : List Corner) (f g : Frame) (s : Spot) (a i : ℕ) → IsRound view left f a i → ((q : Spot) → IsIn f q → IsIn g q) → IsIn g s → s ≡ seen view.axis (slice_index_or left i nobody).point → IsRound view left g a (i + 1)
round_more view left f g s a i r h j e k l m n =
    elim (cases_lt k i) [
      | inl o ↦ h (seen view.axis (slice_index_or left k nobody).point) (r k l o n)
      | inr o ↦ let q : k ≡ i = omega (arith, m, o) in
          subst (λ (x : ℕ). IsIn g (seen view.axis (slice_index_or left x nobody).point)) (sym q) (subst (λ (t : Spot). IsIn g t) e j)
    ]

lift_from : (i k n : ℕ) → n ≤ k → n ≤ lift i k
lift_from i k n h = grind (arith, nat_tests)

lift_to : (i k : ℕ) → lift i k ≤ k + 1
lift_to i k = grind (arith, nat_tests)

one_more : (a k g m : ℕ) → a ≤ k + 1 → k + (g + 1) < m → a + g < m
one_more a k g m h l = omega (arith, h, l)

round_taken : (view : View) (left : List Corner) (runs : List Frame) (gone i : ℕ) → i < length left → AreRound view left runs gone → AreRound view (remove left i) runs (gone + 1)
round_taken view left runs gone i h r = record {
  count = omega (arith, r.count, length-remove left i h);
  each = λ b k l m n.
      subst (λ (c : Corner). IsIn (slice_index_or runs b point_frame) (seen view.axis c.point)) (sym (taken left i k nobody h))
      (r.each b (lift i k) (lift_from i k (run * b) l) (one_more (lift i k) k gone (run * b + (run + run)) (lift_to i k) m) (lift_within (length left) i k (omega (arith, n, length-remove left i h))));
}

pub round_before : (view : View) (left : List Corner) (frames : Frames) → AreFramesBefore (Some view) left frames → AreRound view left frames.runs.items (frames.gone + 1)
round_before view left frames b =
    subst (λ (cs : List Corner). AreRound view cs frames.runs.items (frames.gone + 1)) (sym b.left_is) (round_taken view b.from frames.runs.items frames.gone b.i b.i_in b.framed.round)

reaches : (k g r s : ℕ) → k < r + s → g ≤ s → k + g < r + (s + s)
reaches k g r s h l = omega (arith, h, l)

-- a run whose frame is apart from the triangle's
pub apart_run : (view : View) (left : List Corner) (frames : Frames) (t : Turn) (g : Frame) (b k : ℕ) → AreFrames view left frames → angle_of (Some view) t ≡ Convex
    → is_apart (slice_index_or frames.runs.items b point_frame) g ≡ true → IsIn g (seen view.axis t.before.point) → IsIn g (seen view.axis t.corner.point) → IsIn g (seen view.axis t.after.point)
    → run * b ≤ k → k < run * b + run → k < length left → is_free (Some view) t (slice_index_or left k nobody) ≡ true
apart_run view left frames t g b k f e s x y z l m n =
    apart_free view (slice_index_or frames.runs.items b point_frame) g t (slice_index_or left k nobody) e s
    (f.round.each b k l (reaches k frames.gone (run * b) run m f.few) n) x y z
