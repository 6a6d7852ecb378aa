use Rattle.std.proofs.Common.{All, sym, ◌∙◌, subst}
use Rattle.model_walk.specs.inner.SurfacePieces.{IsUnmapped}
use Rattle.model_walk.proofs.SurfacesPlaced.{unmapped_more, all_pieces}
use Rattle.model_walk.proofs.sketched_surfaces.are_unmapped.Goals as goal

pub loop-piece-preserved : goal.loop-piece-preserved
loop-piece-preserved c =
    unmapped_more c.pieces_of-piece-items.result.now c.loop-piece.piece-index _ c.loop-piece-test.true (sym c.is_some.ensures ∙ c.if-is_some.false) c.loop-piece.invariant

pub returns : goal.returns
returns c =
    subst (All IsUnmapped) c.pieces_of-piece-items.ensures (all_pieces (All IsUnmapped) c.pieces_of-piece-items.result.now c.loop-piece.piece-index c.loop-piece-test.false c.loop-piece.invariant)
