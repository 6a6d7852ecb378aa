use Rattle.std.proofs.Common.{◌∙◌, sym, subst, ◌/◌, ◌<◌, ◌++◌, ◌∷◌, [], List, length, arith}
use Rattle.std.proofs.lemmas.List.{get_or_default}
use Rattle.void_bridge.specs.declared.barriers.Frame.{Frame}
use Rattle.void_bridge.specs.inner.Barriers.{as_segment, run, point_frame, IsInFrame, AreFramed}
use Rattle.void_bridge.proofs.FramedEdges.{framed_begun, framed_more}
use Rattle.void_bridge.proofs.barriers.frame_one_more.Goals as goal

pub returns-then-count-eq0 : goal.returns-then-count-eq0
returns-then-count-eq0 c = λ edges n h.
    subst (λ (fs : List Frame). AreFramed fs (edges ++ as_segment c.args.edge ∷ [])) (sym c.in_ok-push.ensures.items)
    (framed_begun c.args.frames.now.items edges c.frame_of.result (as_segment c.args.edge) (c.args.count / run) (omega (arith, n, c.if-count-eq0.true)) c.frame_of.ensures h)

pub returns : goal.returns
returns c = λ edges n h.
    let frames = c.args.frames.now.items in let a = c.args.count / run in
    let w : a < length frames = omega (arith, c.requires, c.if-count-eq0.false) in
    let e = c.index.ensures ∙ get_or_default frames a c.index.result.now point_frame w in
    framed_more frames edges c.widened_to-frame.result (as_segment c.args.edge) a (omega (arith, n, c.if-count-eq0.false)) (omega (arith, n)) c.widened_to-frame.ensures.holds
    (λ q k. c.widened_to-frame.ensures.kept q (subst (λ (f : Frame). IsInFrame f q) (sym e) k)) h
