use Rattle.std.proofs.Common.{◌≡◌, List, map, sym, subst}
use Rattle.ifc_elements.specs.Surfaces.{placed_by}
use Rattle.model_walk.specs.declared.shape_pieces.Piece.{Piece}
use Rattle.model_walk.specs.inner.SurfacePieces.{ArePlacedNear}
use Rattle.model_walk.specs.Sketches.{pieces_triangles}
use Rattle.model_walk.proofs.SurfacesPlaced.{piece_one, pieces_placed, all_pieces}
use Rattle.model_walk.proofs.sketched_surfaces.surface_of.Goals as goal

pub add_piece-requires-clause-placed : goal.add_piece-requires-clause-placed
add_piece-requires-clause-placed c =
    let P : List Piece → Type 0 = λ pieces. ArePlacedNear c.args.frame.now (pieces_triangles c.args.stock.now.points c.args.stock.now.sets pieces) in
    piece_one c.args.frame.now c.args.stock.now.points c.args.stock.now.sets c.pieces_of-piece-items.result.now c.loop-piece.piece-index _ c.loop-piece-test.true (subst P (sym c.pieces_of-piece-items.ensures) c.requires.near)

pub loop-piece-preserved : goal.loop-piece-preserved
loop-piece-preserved c =
    pieces_placed c.args.frame.now c.args.stock.now.points c.args.stock.now.sets c.pieces_of-piece-items.result.now c.loop-piece.piece-index _ c.loop-piece.made.items c.add_piece.new.out.items c.loop-piece-test.true c.loop-piece.invariant
    c.in_ok-add_piece.ensures

pub returns : goal.returns
returns c =
    let P : List Piece → Type 0 = λ pieces. c.loop-piece.made.items ≡ map (placed_by c.args.frame.now) (pieces_triangles c.args.stock.now.points c.args.stock.now.sets pieces) in
    subst P c.pieces_of-piece-items.ensures (all_pieces P c.pieces_of-piece-items.result.now c.loop-piece.piece-index c.loop-piece-test.false c.loop-piece.invariant)
