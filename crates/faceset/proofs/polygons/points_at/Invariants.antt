use Rattle.std.proofs.Common.{◌≡◌, map, take}
use Rattle.ear_cut.specs.Areas.{point_at}
use Rattle.faceset.proofs.polygons.points_at.Given as goal

abbrev pub invariant-loop-place : goal.invariant-loop-place
invariant-loop-place l = l.made.items ≡ map (point_at l.points) (take l.place-index l.places)
