use Rattle.std.proofs.Common.{All}
use Rattle.bim_model.specs.Points.{IsGridPoint}
use Rattle.shape_tests.proofs.face_tests.points_at.Given as goal

abbrev pub invariant-loop-corner : goal.invariant-loop-corner
invariant-loop-corner l = All IsGridPoint l.made.items
