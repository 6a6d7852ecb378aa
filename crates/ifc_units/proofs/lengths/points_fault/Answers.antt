use Rattle.std.proofs.Common.{refl, sym, ◌++◌, ◌∷◌, []}
use Rattle.ifc_units.proofs.PointFacts.{points_fail, points_more, fault_told, never_told, matched, none_left}
use Rattle.ifc_units.proofs.lengths.points_fault.Goals as goal

pub loop-found-init : goal.loop-found-init
loop-found-init c = ([], ([], sym c.iter-left.ensures, tt))

pub returns-in-Err : goal.returns-in-Err
returns-in-Err c =
    let next = c.in-Some.ensures in
    fault_told c.args.scale c.args.mode c.args.values.now c.in-Err.error c.fault.result c.fault.ensures
    (points_fail c.args.scale c.args.mode c.args.values.now c.loop-found.left c.next_point.new.left c.loop-found.invariant.0 next.0 c.in-Err.error c.loop-found.invariant.1 next.1
    (matched _ _ _ _ c.in-Err.is next.2))

pub loop-found-preserved : goal.loop-found-preserved
loop-found-preserved c =
    let next = c.in-Some.ensures in
    let old = c.loop-found.invariant.0 in (
      old ++ c.in-Ok._point ∷ [],
      points_more c.args.scale c.args.mode c.args.values.now c.loop-found.left c.next_point.new.left old (old ++ c.in-Ok._point ∷ []) next.0 c.in-Ok._point c.loop-found.invariant.1 next.1
          (matched _ _ _ _ c.in-Ok.is next.2) refl,
    )

pub returns : goal.returns
returns c = never_told c.args.scale c.args.mode c.args.values.now c.loop-found.left c.loop-found.invariant.0 c.loop-found.invariant.1
    (none_left _ _ c.next_point.result c.next_point.ensures c.in_default.not-Some)
