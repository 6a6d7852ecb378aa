use Rattle.std.proofs.Common.{◌≡◌, ◌++◌, take}
use Rattle.bucket_grid.proofs.subjects.add_boxes.Given as goal

abbrev pub invariant-loop-extent : goal.invariant-loop-extent
invariant-loop-extent l = l.boxes.items ≡ l.fn.boxes.items ++ take l.extent-index l.extents
