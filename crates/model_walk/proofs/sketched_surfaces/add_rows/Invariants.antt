use Rattle.std.proofs.Common.{◌≡◌, ◌++◌, map, take}
use Rattle.ifc_elements.specs.Surfaces.{placed_by}
use Rattle.walk_rows.specs.Rows.{triangles_at}
use Rattle.model_walk.proofs.sketched_surfaces.add_rows.Given as goal

abbrev pub invariant-loop-row : goal.invariant-loop-row
invariant-loop-row l = l.out.items ≡ l.initial.out.items ++ map (placed_by l.frame) (map (placed_by l.operator) (triangles_at l.points (take l.row-index l.rows)))
