use Rattle.std.proofs.Common.{List, All, sym, subst}
use Rattle.bim_model.specs.declared.geometry.Point.{Point}
use Rattle.bim_model.specs.Boxes.{corners_of}
use Rattle.bim_model.specs.Models.{IsInReach}
use Rattle.walk_rows.specs.declared.triangle_rows.Row.{Row}
use Rattle.walk_rows.specs.Rows.{triangles_at}
use Rattle.model_walk.proofs.SurfacesPlaced.{found_near}
use Rattle.model_walk.proofs.sketched_surfaces.is_piece_near.Goals as goal

pub are_rows_near-requires-clause-near : goal.are_rows_near-requires-clause-near
are_rows_near-requires-clause-near c =
    let set = c.in-Some.set.now in
    let found = c.in-Some-get.points.now in
    let near = found_near c.args.stock.now.points c.args.stock.now.sets c.args.piece.now.set set found c.requires.sound.sets (sym c.in-Some.ensures) (sym c.in-Some-get.ensures) in
    subst (λ (rows : List Row). All IsInReach (corners_of (triangles_at c.as_slice.result.now rows))) (sym c.as_slice-in-Some-get.ensures)
    (subst (λ (points : List Point). All IsInReach (corners_of (triangles_at points set.rows))) (sym c.as_slice.ensures) near)
