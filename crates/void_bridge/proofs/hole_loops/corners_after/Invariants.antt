use Rattle.std.proofs.Common.{◌≡◌, take}
use Rattle.ear_cut.specs.Corners.{corners_from}
use Rattle.void_bridge.proofs.hole_loops.corners_after.Given as goal

abbrev pub invariant-loop-i : goal.invariant-loop-i
invariant-loop-i l = l.corners.items ≡ corners_from l.fn.first (take l.i l.points)
