use Rattle.std.proofs.Common.{◌≡◌, map, take}
use Rattle.faceset.specs.FaceSets.{triangle_of}
use Rattle.faceset.proofs.faces.triangles_of.Given as goal

abbrev pub invariant-loop-ear : goal.invariant-loop-ear
invariant-loop-ear l = l.made.items ≡ map (triangle_of l.corners) (take l.ear-index l.ears)
