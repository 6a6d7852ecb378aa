use Rattle.std.proofs.Common.{◌≡◌, map, take}
use Rattle.faceset.specs.FacePolygons.{ear_by}
use Rattle.faceset.proofs.polygons.ears_placed.Given as goal

abbrev pub invariant-loop-ear : goal.invariant-loop-ear
invariant-loop-ear l = l.made.items ≡ map (ear_by l.list) (take l.ear-index l.ears)
