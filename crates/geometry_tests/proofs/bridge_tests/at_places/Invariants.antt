use Rattle.std.proofs.Common.{All}
use Rattle.bim_model.specs.Points.{IsGridPoint}
use Rattle.geometry_tests.proofs.bridge_tests.at_places.Given as goal

abbrev pub invariant-loop-place : goal.invariant-loop-place
invariant-loop-place l = All IsGridPoint l.made.items
