use Rattle.std.proofs.Common.{[], ◌∷◌, ◌++◌, ap, sym, ◌∙◌, subst}
use Rattle.bim_model.specs.declared.geometry.Triangle.{Triangle}
use Rattle.ifc_elements.specs.Surfaces.{placed_by}
use Rattle.model_walk.specs.inner.SurfacePieces.{ArePlacedNear}
use Rattle.model_walk.proofs.SurfacesPlaced.{own_one, row_one, rows_placed}
use Rattle.model_walk.proofs.sketched_surfaces.add_rows.Goals as goal

pub own_triangle-requires-clause-near : goal.own_triangle-requires-clause-near
own_triangle-requires-clause-near c = own_one c.args.points.now c.args.rows.now c.loop-row.row-index _ c.loop-row-test.true c.requires.near

pub placed-requires-clause-near : goal.placed-requires-clause-near
placed-requires-clause-near c =
    subst (λ (t : Triangle). ArePlacedNear c.args.frame.now (t ∷ [])) (sym c.own_triangle.ensures)
    (row_one c.args.frame.now c.args.operator.now c.args.points.now c.args.rows.now c.loop-row.row-index _ c.loop-row-test.true c.requires.placed)

pub loop-row-preserved : goal.loop-row-preserved
loop-row-preserved c =
    rows_placed c.args.frame.now c.args.operator.now c.args.points.now c.args.rows.now c.loop-row.row-index _ c.args.out.now.items c.loop-row.out.items c.push.new.self.items c.loop-row-test.true c.loop-row.invariant
    (c.in_ok-push.ensures.items ∙ ap (λ (t : Triangle). c.loop-row.out.items ++ t ∷ []) (c.placed.ensures ∙ ap (placed_by c.args.frame.now) c.own_triangle.ensures))
