use Rattle.std.proofs.Common.{◌≡◌, ◌++◌, take}
use Rattle.faceset.proofs.Loops.{flat}
use Rattle.faceset.proofs.PolygonsMade.{items_of}
use Rattle.faceset.proofs.polygons.add_loops.Given as goal

abbrev pub invariant-loop-ring : goal.invariant-loop-ring
invariant-loop-ring l = l.all.items ≡ l.fn.all.items ++ flat (items_of (take l.ring-index l.inner))
