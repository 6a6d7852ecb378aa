use Rattle.bucket_grid.proofs.Points.{cells_hold}
use Rattle.bucket_grid.proofs.laws.cells_hold_points.Goals as goal

pub returns : goal.returns
returns c = cells_hold
