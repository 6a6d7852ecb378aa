use Rattle.std.proofs.Common.{◌≡◌, ◌≤◌, sum_by}
use Rattle.p21_values.specs.Attributes.{led_to}
use Rattle.faceset.specs.FaceSets.{face_count}
use Rattle.faceset.proofs.face_counts.count_faces.Given as goal

abbrev pub invariant-loop-value : goal.invariant-loop-value
invariant-loop-value l = (l.count ≡ sum_by face_count (led_to l.exchange l.yielded)) × (l.count ≤ l.most)
