use Rattle.std.proofs.Common.{◌*◌, arith}
use Rattle.ear_cut.specs.Registers.{as_spot}
use Rattle.ear_cut.specs.inner.CornerFrames.{run}
use Rattle.ear_cut.proofs.Closed.{corner_in_grid}
use Rattle.ear_cut.proofs.Round.{round_more}
use Rattle.ear_cut.proofs.corner_frames.frame_round.Goals as goal

pub seen-requires : goal.seen-requires
seen-requires c = corner_in_grid _ _ _ c.requires.left_in (omega (arith, c.requires.b_in))

pub seen-requires-in-loop-i : goal.seen-requires-in-loop-i
seen-requires-in-loop-i c = corner_in_grid _ _ _ c.requires.left_in (omega (arith, c.loop-i-test.true, c.end_of-i-end.ensures.within))

pub loop-i-preserved : goal.loop-i-preserved
loop-i-preserved c =
    round_more c.args.view c.args.left.now c.loop-i.frame c.widened-frame.result (as_spot c.seen-in-loop-i.result) (run * c.args.b) c.loop-i.i
    c.loop-i.invariant c.widened-frame.ensures.kept c.widened-frame.ensures.holds c.seen-in-loop-i.ensures

pub returns : goal.returns
returns c = λ k l m n. let e = c.end_of-i-end.ensures.all k n m in c.loop-i.invariant k l (omega (arith, e, c.loop-i-test.false)) n
