use Rattle.std.proofs.Common.{[], sym, subst}
use Rattle.ifc_units.specs.Lengths.{ArePoints}
use Rattle.ifc_units.proofs.PointFacts.{points_fail, points_more, points_over, matched, none_left}
use Rattle.ifc_units.proofs.lengths.points.Goals as goal

pub loop-found-init : goal.loop-found-init
loop-found-init c = ([], sym c.iter-left.ensures, subst (λ ps. ArePoints c.args.scale c.args.mode [] ps) (sym c.new-made.ensures.items) tt)

pub returns-in-Err : goal.returns-in-Err
returns-in-Err c =
    let next = c.in-Some.ensures in
    points_fail c.args.scale c.args.mode c.args.values.now c.loop-found.left c.next_point.new.left c.loop-found.made.items next.0 c.in-Err.error c.loop-found.invariant next.1
    (matched _ _ _ _ c.in-Err.is next.2)

pub loop-found-preserved : goal.loop-found-preserved
loop-found-preserved c =
    let next = c.in-Some.ensures in
    points_more c.args.scale c.args.mode c.args.values.now c.loop-found.left c.next_point.new.left c.loop-found.made.items c.push.new.self.items next.0 c.in-Ok.point c.loop-found.invariant next.1
    (matched _ _ _ _ c.in-Ok.is next.2) c.in_ok-push-in-Ok.ensures.items

pub returns : goal.returns
returns c = points_over c.args.scale c.args.mode c.args.values.now c.loop-found.left c.loop-found.made.items c.loop-found.invariant (none_left _ _ c.next_point.result c.next_point.ensures c.in_default.not-Some)
