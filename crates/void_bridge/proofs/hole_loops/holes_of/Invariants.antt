use Rattle.std.proofs.Common.{◌≡◌, ◌+◌, map, take}
use Rattle.void_bridge.specs.HoleLoops.{loops_from, corner_count, oriented}
use Rattle.void_bridge.proofs.HolesRead.{items_of}
use Rattle.void_bridge.proofs.hole_loops.holes_of.Given as goal

abbrev pub invariant-loop-points : goal.invariant-loop-points
invariant-loop-points l = record {
  next_is : l.next ≡ l.fn.first + corner_count (take l.points-index (items_of l.inner));
  made : items_of l.holes.items ≡ map (oriented l.view) (loops_from l.fn.first (take l.points-index (items_of l.inner)));
}
