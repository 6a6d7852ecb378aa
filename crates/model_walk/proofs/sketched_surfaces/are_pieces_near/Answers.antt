use Rattle.std.proofs.Common.{List, Some, subst}
use Rattle.std.proofs.lemmas.Bool.{OnTrue_at}
use Rattle.model_walk.specs.declared.shape_pieces.Piece.{Piece}
use Rattle.model_walk.specs.inner.SurfacePieces.{ArePlacedNear}
use Rattle.model_walk.specs.Sketches.{pieces_triangles}
use Rattle.model_walk.proofs.SurfacesPlaced.{pieces_near, all_pieces}
use Rattle.model_walk.proofs.sketched_surfaces.are_pieces_near.Goals as goal

pub loop-piece-preserved : goal.loop-piece-preserved
loop-piece-preserved c =
    pieces_near (Some c.args.frame.now) c.args.stock.now.points c.args.stock.now.sets c.pieces_of-piece-items.result.now c.loop-piece.piece-index _ c.loop-piece-test.true (OnTrue_at c.if-not-is_piece_near.false c.is_piece_near.ensures) c.loop-piece.invariant

pub returns : goal.returns
returns c =
    let P : List Piece → Type 0 = λ pieces. ArePlacedNear (Some c.args.frame.now) (pieces_triangles c.args.stock.now.points c.args.stock.now.sets pieces) in
    subst P c.pieces_of-piece-items.ensures (all_pieces P c.pieces_of-piece-items.result.now c.loop-piece.piece-index c.loop-piece-test.false c.loop-piece.invariant)
