use Rattle.std.proofs.Common.{take, All}
use Rattle.model_walk.specs.inner.SurfacePieces.{IsUnmapped}
use Rattle.model_walk.proofs.sketched_surfaces.are_unmapped.Given as goal

abbrev pub invariant-loop-piece : goal.invariant-loop-piece
invariant-loop-piece l = All IsUnmapped (take l.piece-index l.piece-items)
