use Rattle.bucket_grid.proofs.Near.{near_elements}
use Rattle.bucket_grid.proofs.laws.near_elements_have_an_owner.Goals as goal

pub returns : goal.returns
returns c = near_elements
