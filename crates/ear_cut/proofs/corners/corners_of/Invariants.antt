use Rattle.std.proofs.Common.{◌≡◌, take}
use Rattle.ear_cut.specs.Corners.{corners_from}
use Rattle.ear_cut.proofs.corners.corners_of.Given as goal

abbrev pub invariant-loop-place : goal.invariant-loop-place
invariant-loop-place l = l.corners.items ≡ corners_from 0 (take l.place l.points)
