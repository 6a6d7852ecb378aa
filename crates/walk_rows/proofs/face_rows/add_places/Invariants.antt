use Rattle.std.proofs.Common.{◌≡◌, ◌++◌, take}
use Rattle.walk_rows.proofs.EarRows.{flat}
use Rattle.walk_rows.proofs.RingsRead.{items_of}
use Rattle.walk_rows.proofs.face_rows.add_places.Given as goal

abbrev pub invariant-loop-ring : goal.invariant-loop-ring
invariant-loop-ring l = l.all.items ≡ l.fn.all.items ++ flat (items_of (take l.ring-index l.inner))
