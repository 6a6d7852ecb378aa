use Rattle.std.proofs.Common.{◌≡◌, length, All}
use Rattle.bim_model.specs.Points.{IsGridPoint}
use Rattle.geometry_tests.proofs.sample_points.polygon.Given as goal

abbrev pub invariant-loop-corner : goal.invariant-loop-corner
invariant-loop-corner l = record {
  in_grid : All IsGridPoint l.made.items;
  count : length l.made.items ≡ l.corner-index;
}
