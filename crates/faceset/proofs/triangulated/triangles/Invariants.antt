use Rattle.std.proofs.Common.{option_copied}
use Rattle.faceset.specs.FaceSets.{AreTriangles}
use Rattle.faceset.proofs.triangulated.triangles.Given as goal

abbrev pub invariant-loop-row : goal.invariant-loop-row
invariant-loop-row l = AreTriangles (option_copied l.numbers) l.points l.yielded l.made.items
