use Rattle.std.proofs.Common.{sym, ◌∙◌}
use Rattle.ifc_elements.proofs.PointsOnGrid.{listed_grid}
use Rattle.model_build.proofs.StuckFaces.{apart_nowhere, apart_no_set, apart_no_list, apart_no_points, apart_told}
use Rattle.model_build.proofs.uncut_faces.is_unbridged_in.Goals as goal

pub returns-in_default : goal.returns-in_default
returns-in_default c = apart_nowhere c.args.exchange.now c.args.scale c.args.mode c.args.id c.args.face c.in_default.ensures

pub returns-then-not-is_set : goal.returns-then-not-is_set
returns-then-not-is_set c = apart_no_set c.args.exchange.now c.args.scale c.args.mode c.args.id c.args.face c.in-Some.set c.in-Some.ensures (sym c.is_set.ensures ∙ c.if-not-is_set.true)

pub returns-in_default-reference_at : goal.returns-in_default-reference_at
returns-in_default-reference_at c = apart_no_list c.args.exchange.now c.args.scale c.args.mode c.args.id c.args.face c.in-Some.set c.in-Some.ensures c.in_default-reference_at.ensures

pub returns-in_default-points_at : goal.returns-in_default-points_at
returns-in_default-points_at c =
    apart_no_points c.args.exchange.now c.args.scale c.args.mode c.args.id c.args.face c.in-Some-reference_at.list c.in-Some.set c.in-Some.ensures c.in-Some-reference_at.ensures
    (c.in_default-points_at.ensures c.args.scale c.args.mode c.requires)

pub has_unbridged-requires : goal.has_unbridged-requires
has_unbridged-requires c = listed_grid c.args.exchange.now c.args.scale c.args.mode c.in-Some-reference_at.list c.in-Some-points_at.points.now (c.in-Some-points_at.ensures c.args.scale c.args.mode c.requires)

pub returns : goal.returns
returns c =
    apart_told c.args.exchange.now c.args.scale c.args.mode c.args.id c.in-Some-reference_at.list c.in-Some.set c.in-Some-points_at.points.now c.args.face c.has_unbridged.result c.in-Some.ensures
    (sym c.is_set.ensures ∙ c.if-not-is_set.false) c.in-Some-reference_at.ensures (c.in-Some-points_at.ensures c.args.scale c.args.mode c.requires) c.has_unbridged.ensures
