use Rattle.std.proofs.Common.{All, sym, subst}
use Rattle.bim_model.specs.Points.{IsInGrid}
use Rattle.clearance.specs.Near.{ElementInGrid}
use Rattle.geometry_tests.proofs.sample_points.element.Goals as goal

pub returns : goal.returns
unfolding ElementInGrid
returns c = subst (All IsInGrid) (sym c.from_vec.ensures) c.requires
