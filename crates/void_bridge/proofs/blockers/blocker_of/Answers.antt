use Rattle.std.proofs.Common.{◌≡◌, ◌∙◌, ap, sym, subst, ◌<◌, ◌≤◌, ◌*◌, ℕ, List, length, map, true, arith}
use Rattle.std.specs.Prelude.{slice_index_or}
use Rattle.std.proofs.lemmas.List.{get_or_default, length-map}
use Rattle.void_bridge.specs.declared.barriers.Edge.{Edge}
use Rattle.void_bridge.specs.declared.barriers.Frame.{Frame}
use Rattle.void_bridge.specs.inner.Barriers.{as_segment, segments_of, run, point_frame, are_apart, IsPassed}
use Rattle.void_bridge.proofs.Passed.{none_blocks, run_passed, run_asked}
use Rattle.void_bridge.proofs.blockers.blocker_of.Goals as goal

pub loop-b-preserved-then-are_apart : goal.loop-b-preserved-then-are_apart
loop-b-preserved-then-are_apart c =
    let frames = c.args.barriers.now.frames.items in let b = c.loop-b.b in let g = c.frame_of-around.result in
    let w : b < length frames = omega (arith, c.loop-b-test.true) in
    let e = c.index.ensures ∙ get_or_default frames b c.index.result.now point_frame w in
    let apart : are_apart (slice_index_or frames b point_frame) g ≡ true = ap (λ (f : Frame). are_apart f g) (sym e) ∙ (sym c.are_apart.ensures ∙ c.if-are_apart.true) in
    run_passed c.args.view (as_segment c.args.bridge) frames (segments_of c.args.barriers.now) g b c.requires apart c.frame_of-around.ensures c.loop-b.invariant

pub loop-b-preserved : goal.loop-b-preserved
loop-b-preserved c =
    let view = c.args.view in let bridge = as_segment c.args.bridge in let end = c.run_end-end.result in
    run_asked view bridge (segments_of c.args.barriers.now) c.loop-b.b end
    (subst (λ (es : List Edge). (k : ℕ) → run * c.loop-b.b ≤ k → k < end → IsPassed view bridge (map as_segment es) k) c.deref.ensures.value c.in_default.ensures)
    (λ k h l. c.run_end-end.ensures.all k (omega (arith, h, length-map c.args.barriers.now.edges.items as_segment, c.len.ensures)) l) c.loop-b.invariant

pub returns : goal.returns
returns c =
    sym (none_blocks c.args.view (as_segment c.args.bridge) (segments_of c.args.barriers.now)
    (λ k h. c.loop-b.invariant k (omega (arith, h, c.requires.enough, c.loop-b-test.false)) h))
