use Rattle.std.proofs.Common.{◌≡◌, map, take}
use Rattle.ifc_elements.specs.Surfaces.{placed_by}
use Rattle.model_walk.specs.Sketches.{pieces_triangles}
use Rattle.model_walk.proofs.sketched_surfaces.surface_of.Given as goal

abbrev pub invariant-loop-piece : goal.invariant-loop-piece
invariant-loop-piece l = l.made.items ≡ map (placed_by l.frame) (pieces_triangles l.stock.points l.stock.sets (take l.piece-index l.piece-items))
