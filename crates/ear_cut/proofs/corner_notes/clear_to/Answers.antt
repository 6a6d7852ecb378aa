use Rattle.std.proofs.Common.{◌≡◌, ◌∙◌, ap, sym, subst, ◌<◌, ◌*◌, inl, inr, true, length, arith}
use Rattle.std.specs.Prelude.{slice_index_or}
use Rattle.std.proofs.lemmas.Bool.{cases_lt}
use Rattle.std.proofs.lemmas.List.{get_or_default}
use Rattle.ear_cut.specs.declared.corner_frames.Frame.{Frame}
use Rattle.ear_cut.specs.inner.CornerFrames.{run, point_frame, IsIn, is_apart}
use Rattle.ear_cut.proofs.Round.{apart_run}
use Rattle.ear_cut.proofs.corner_notes.clear_to.Goals as goal

pub loop-b-preserved-then-is_apart : goal.loop-b-preserved-then-is_apart
loop-b-preserved-then-is_apart c =
    let g = c.frame_of-around.result in let runs = c.args.frames.now.runs.items in let b = c.loop-b.b in
    let w : b < length runs = omega (arith, c.requires.framed.round.count, c.loop-b-test.true, c.runs_of-b-end.ensures.least) in
    let e = c.index.ensures ∙ get_or_default runs b c.index.result.now point_frame w in
    let apart : is_apart (slice_index_or runs b point_frame) g ≡ true = ap (λ (f : Frame). is_apart f g) (sym e) ∙ (sym c.is_apart.ensures ∙ c.if-is_apart.true) in
    λ k l n. elim (cases_lt k (run * b)) [
      | inl h ↦ c.loop-b.invariant k h n
      | inr h ↦ apart_run c.args.view c.args.left.now c.args.frames.now c.args.t g b k c.requires.framed c.requires.convex apart
          (subst (IsIn g) c.shape_of.ensures.before c.frame_of-around.ensures.a_in) (subst (IsIn g) c.shape_of.ensures.corner c.frame_of-around.ensures.b_in) (subst (IsIn g) c.shape_of.ensures.after c.frame_of-around.ensures.c_in)
          h (omega (arith, l)) n
    ]
