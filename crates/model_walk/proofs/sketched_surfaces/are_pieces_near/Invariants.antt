use Rattle.std.proofs.Common.{take, Some}
use Rattle.model_walk.specs.inner.SurfacePieces.{ArePlacedNear}
use Rattle.model_walk.specs.Sketches.{pieces_triangles}
use Rattle.model_walk.proofs.sketched_surfaces.are_pieces_near.Given as goal

abbrev pub invariant-loop-piece : goal.invariant-loop-piece
invariant-loop-piece l = ArePlacedNear (Some l.frame) (pieces_triangles l.stock.points l.stock.sets (take l.piece-index l.piece-items))
