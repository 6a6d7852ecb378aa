use Rattle.std.proofs.Common.{◌≡◌, ◌≤◌, ◌+◌, sum_by}
use Rattle.faceset.specs.FaceSets.{triangle_count}
use Rattle.p21_values.specs.Attributes.{led_to}
use Rattle.model_build.specs.Triangles.{most_triangles}
use Rattle.model_build.proofs.counts.count_sets.Given as goal

abbrev pub invariant-loop-value : goal.invariant-loop-value
invariant-loop-value l = (l.so_far + sum_by (triangle_count l.exchange) (led_to l.exchange l.yielded) ≡ l.count) × (l.count ≤ most_triangles)
