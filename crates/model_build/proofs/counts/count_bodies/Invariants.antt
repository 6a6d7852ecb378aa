use Rattle.std.proofs.Common.{◌≡◌, ◌≤◌, ◌+◌, take, sum_by}
use Rattle.model_build.specs.Triangles.{most_triangles, body_count}
use Rattle.model_build.proofs.counts.count_bodies.Given as goal

abbrev pub invariant-loop-id : goal.invariant-loop-id
invariant-loop-id l = (l.so_far + sum_by (body_count l.exchange) (take l.id-index l.ids) ≡ l.count) × (l.count ≤ most_triangles)
