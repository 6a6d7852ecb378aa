use Rattle.std.proofs.Common.{◌∙◌, sym, ◌<◌, length, map, arith}
use Rattle.void_bridge.specs.inner.Barriers.{as_segment}
use Rattle.void_bridge.proofs.Passed.{blocked_at, passed_at, passed_more}
use Rattle.void_bridge.proofs.blockers.blocker_in.Goals as goal

pub returns-then-collide : goal.returns-then-collide
returns-then-collide c =
    let h : c.loop-i.i < length c.args.edges.now = omega (arith, c.loop-i-test.true, c.requires.end_in) in
    blocked_at c.args.view (as_segment c.args.bridge) c.args.edges.now c.loop-i.i c.index-edges-i.result h c.index-edges-i.is (sym c.collide.ensures ∙ c.if-collide.true)

pub loop-i-preserved : goal.loop-i-preserved
loop-i-preserved c =
    let h : c.loop-i.i < length c.args.edges.now = omega (arith, c.loop-i-test.true, c.requires.end_in) in
    passed_more c.args.view (as_segment c.args.bridge) (map as_segment c.args.edges.now) c.args.start c.loop-i.i c.loop-i.invariant
    (passed_at c.args.view (as_segment c.args.bridge) c.args.edges.now c.loop-i.i c.index-edges-i.result h c.index-edges-i.is (sym c.collide.ensures ∙ c.if-collide.false))
