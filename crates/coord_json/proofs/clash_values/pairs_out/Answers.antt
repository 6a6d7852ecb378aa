use Rattle.coord_json.proofs.Lists.{pairs_more}
use Rattle.coord_json.proofs.clash_values.pairs_out.Goals as goal

pub loop-pair-preserved : goal.loop-pair-preserved
loop-pair-preserved c =
    pairs_more c.args.set.now c.args.pairs.now c.loop-pair.pair-index c.loop-pair.trees.items c.push.new.self.items (record { a = 0; b = 0; rule = 0 }) c.in_ok-pair_out.field-0
    c.loop-pair-test.true c.in_ok-pair_out.ensures c.in_ok-push.ensures.items c.loop-pair.invariant
