use Rattle.std.proofs.Common.{List, [], ◌∷◌, map, Some, subst}
use Rattle.std.proofs.lemmas.Bool.{OnTrue_at}
use Rattle.bim_model.specs.declared.geometry.Triangle.{Triangle}
use Rattle.ifc_elements.specs.Surfaces.{placed_by}
use Rattle.walk_rows.specs.declared.triangle_rows.Row.{Row}
use Rattle.walk_rows.specs.Rows.{triangles_at}
use Rattle.model_walk.specs.inner.SurfacePieces.{ArePlacedNear}
use Rattle.model_walk.proofs.SurfacesPlaced.{own_one, rows_near, all_rows}
use Rattle.model_walk.proofs.sketched_surfaces.are_rows_near.Goals as goal

pub own_triangle-requires-clause-near : goal.own_triangle-requires-clause-near
own_triangle-requires-clause-near c = own_one c.args.points.now c.args.rows.now c.loop-row.row-index _ c.loop-row-test.true c.requires.near

pub loop-row-preserved : goal.loop-row-preserved
loop-row-preserved c =
    let one = OnTrue_at c.if-not-are_carried_near.false c.are_carried_near.ensures in
    rows_near (Some c.args.frame.now) c.args.operator.now c.args.points.now c.args.rows.now c.loop-row.row-index _ c.loop-row-test.true (subst (λ (t : Triangle). ArePlacedNear (Some c.args.frame.now) (t ∷ [])) c.own_triangle.ensures one)
    c.loop-row.invariant

pub returns : goal.returns
returns c =
    all_rows (λ (rows : List Row). ArePlacedNear (Some c.args.frame.now) (map (placed_by c.args.operator.now) (triangles_at c.args.points.now rows))) c.args.rows.now c.loop-row.row-index c.loop-row-test.false c.loop-row.invariant
