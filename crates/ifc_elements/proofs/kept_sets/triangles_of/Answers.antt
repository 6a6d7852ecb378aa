use Rattle.std.proofs.Common.{sym}
use Rattle.ifc_elements.proofs.PointsOnGrid.{listed_grid}
use Rattle.ifc_elements.proofs.SetsKept.{unlisted, made_there}
use Rattle.ifc_elements.proofs.kept_sets.triangles_of.Goals as goal

pub returns-in_default-points_at : goal.returns-in_default-points_at
returns-in_default-points_at c = λ sound.
    absurd (unlisted c.args.exchange.now c.args.scale c.args.mode c.args.set.now c.in-Some.list (c.in_default-points_at.ensures c.args.scale c.args.mode c.requires) (sym c.in-Some.ensures) sound)

pub set_triangles-requires : goal.set_triangles-requires
set_triangles-requires c = listed_grid c.args.exchange.now c.args.scale c.args.mode c.in-Some.list c.in-Some-points_at.points.now (c.in-Some-points_at.ensures c.args.scale c.args.mode c.requires)

pub returns : goal.returns
returns c =
    made_there c.args.exchange.now c.args.scale c.args.mode c.args.set.now c.in-Some.list c.in-Some-points_at.points.now c.set_triangles.result (sym c.in-Some.ensures)
    (c.in-Some-points_at.ensures c.args.scale c.args.mode c.requires) c.set_triangles.ensures.triangles c.set_triangles.ensures.count
