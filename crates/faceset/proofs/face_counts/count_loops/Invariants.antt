use Rattle.std.proofs.Common.{◌≡◌, ◌+◌, ◌≤◌, map, sum_by}
use Rattle.p21_values.specs.Attributes.{items_in}
use Rattle.faceset.specs.FaceSets.{loop_count}
use Rattle.faceset.proofs.face_counts.count_loops.Given as goal

abbrev pub invariant-loop-row : goal.invariant-loop-row
invariant-loop-row l = (l.count ≡ l.before + sum_by loop_count (map items_in l.yielded)) × (l.count ≤ l.most)
