use Rattle.walk_rows.proofs.RingsRead.{rings_added}
use Rattle.walk_rows.proofs.face_rows.rings_at.Goals as goal

pub loop-ring-preserved : goal.loop-ring-preserved
loop-ring-preserved c =
    rings_added c.args.points.now c.args.rings.now c.loop-ring.ring-index c.ring-item.result c.loop-ring.made.items c.push.new.self.items c.in_ok-points_at.field-0 c.deref.result.now c.loop-ring-test.true c.ring-item.is c.deref.ensures.value
    c.in_ok-points_at.ensures c.in_ok-push.ensures.items c.loop-ring.invariant
