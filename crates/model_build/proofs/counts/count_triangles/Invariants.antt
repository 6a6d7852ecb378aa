use Rattle.std.proofs.Common.{◌≡◌, ◌≤◌, take, sum_by}
use Rattle.model_build.specs.Triangles.{most_triangles}
use Rattle.ifc_elements.specs.Items.{count_of}
use Rattle.model_build.proofs.counts.count_triangles.Given as goal

abbrev pub invariant-loop-id : goal.invariant-loop-id
invariant-loop-id l = (sum_by (count_of l.exchange) (take l.id-index l.elements) ≡ l.count) × (l.count ≤ most_triangles)
