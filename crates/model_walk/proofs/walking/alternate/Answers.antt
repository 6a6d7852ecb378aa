use Rattle.model_walk.proofs.GuidsDiffer.{apart_more}
use Rattle.model_walk.proofs.walking.alternate.Goals as goal

pub loop-at-preserved : goal.loop-at-preserved
loop-at-preserved c = apart_more c.args.guids.now c.loop-at.at c.eq.result c.loop-at.auto.at c.loop-at-test.true c.eq.ensures c.if-eq.false c.loop-at.invariant
