use Rattle.std.proofs.Common.{◌≡◌, length, sum_by, option_copied}
use Rattle.faceset.specs.FaceSets.{Joined, IsCut, face_count}
use Rattle.p21_values.specs.Attributes.{led_to}
use Rattle.faceset.proofs.set_surface.faces_triangles.Given as goal

abbrev pub invariant-loop-value : goal.invariant-loop-value
invariant-loop-value l =
    Joined (IsCut (option_copied l.numbers) l.points) (led_to l.exchange l.yielded) l.made.items
    × (length l.made.items ≡ sum_by face_count (led_to l.exchange l.yielded))
