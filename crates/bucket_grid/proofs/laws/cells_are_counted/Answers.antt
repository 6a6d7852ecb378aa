use Rattle.bucket_grid.proofs.Counted.{counted}
use Rattle.bucket_grid.proofs.laws.cells_are_counted.Goals as goal

pub returns : goal.returns
returns c = counted
