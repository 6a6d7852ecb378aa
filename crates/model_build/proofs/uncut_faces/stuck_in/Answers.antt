use Rattle.std.proofs.Common.{◌∙◌, sym}
use Rattle.faceset.specs.FaceSets.{HasStuck}
use Rattle.ifc_instances.specs.inner.Least.{LeastOf}
use Rattle.model_build.specs.inner.Outcomes.{ShowsStuckSet}
use Rattle.ifc_elements.proofs.PointsOnGrid.{listed_grid}
use Rattle.model_build.proofs.StuckFaces.{IsFound, no_points, stuck_least, ok_by}
use Rattle.model_build.proofs.uncut_faces.stuck_in.Goals as goal

pub returns-in_default-points_at : goal.returns-in_default-points_at
returns-in_default-points_at c =
    no_points c.args.exchange.now c.args.scale c.args.mode c.args.id c.in-Some-reference_at.list c.in-Some.set c.in-Some.ensures c.in-Some-reference_at.ensures
    (c.in_default-points_at.ensures c.args.scale c.args.mode c.requires)

pub least_stuck-requires : goal.least_stuck-requires
least_stuck-requires c = listed_grid c.args.exchange.now c.args.scale c.args.mode c.in-Some-reference_at.list c.in-Some-points_at.points.now (c.in-Some-points_at.ensures c.args.scale c.args.mode c.requires)

pub returns : goal.returns
returns c =
    ok_by (IsFound (HasStuck c.args.exchange.now c.in-Some-points_at.points.now c.in-Some.set)) (LeastOf (ShowsStuckSet c.args.exchange.now c.args.scale c.args.mode c.args.id)) c.least_stuck.result
    (stuck_least c.args.exchange.now c.args.scale c.args.mode c.args.id c.in-Some-reference_at.list c.in-Some.set c.in-Some-points_at.points.now c.in-Some.ensures (sym c.is_set.ensures ∙ c.if-not-is_set.false)
    c.in-Some-reference_at.ensures (c.in-Some-points_at.ensures c.args.scale c.args.mode c.requires)) c.least_stuck.ensures
