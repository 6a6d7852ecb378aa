use Rattle.std.proofs.Common.{All, option_copied}
use Rattle.bim_model.specs.Points.{IsGridPoint}
use Rattle.faceset.specs.FaceSets.{AreCorners}
use Rattle.faceset.proofs.faces.corners_of.Given as goal

abbrev pub invariant-loop-value : goal.invariant-loop-value
invariant-loop-value l = AreCorners (option_copied l.numbers) l.points l.yielded l.made.items × All IsGridPoint l.made.items
