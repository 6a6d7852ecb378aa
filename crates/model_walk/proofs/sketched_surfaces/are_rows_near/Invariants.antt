use Rattle.std.proofs.Common.{map, take, Some}
use Rattle.ifc_elements.specs.Surfaces.{placed_by}
use Rattle.model_walk.specs.inner.SurfacePieces.{ArePlacedNear}
use Rattle.walk_rows.specs.Rows.{triangles_at}
use Rattle.model_walk.proofs.sketched_surfaces.are_rows_near.Given as goal

abbrev pub invariant-loop-row : goal.invariant-loop-row
invariant-loop-row l = ArePlacedNear (Some l.frame) (map (placed_by l.operator) (triangles_at l.points (take l.row-index l.rows)))
