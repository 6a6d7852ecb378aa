use Rattle.std.proofs.Common.{◌<◌, length, sym, ◌∙◌, arith}
use Rattle.std.proofs.lemmas.Bool.{OnTrue_at}
use Rattle.model_walk.proofs.PointsPooled.{filled_past, filled_more, unmet}
use Rattle.model_walk.proofs.point_pool.points_in.Goals as goal
use Rattle.model_walk.proofs.point_pool.points_in.Goals.{then-is_seen+in_ok-kept+else-not-kept, else-is_seen}

pub loop-at-preserved : goal.loop-at-preserved
loop-at-preserved c =
    let world = c.args.exchange.now in
    let work = c.args.work.now in
    let at = c.loop-at.at in
    elim c.if-is_seen.branch [
      | then-is_seen+in_ok-kept+else-not-kept w ↦
          rw w.pool-is (filled_more world c.args.scale c.args.mode work at w.instance.result c.loop-at.pool w.keep_points.new.pool w.instance.ensures (OnTrue_at w.if-not-kept.false w.in_ok-kept.ensures) c.loop-at.invariant)
      | else-is_seen w ↦ (
          let within = c.loop-at-test.true in
          let count = c.len-places.ensures.count in
          let size = c.requires.size in
          let lt : at < length work.marks.items = omega (arith, within, count, size) in
          rw w.pool-is (filled_past world c.args.scale c.args.mode work at c.loop-at.pool (unmet work at c.index.result.now lt c.index.ensures (sym c.is_seen.ensures ∙ w.if-is_seen.false)) c.loop-at.invariant))
    ]
