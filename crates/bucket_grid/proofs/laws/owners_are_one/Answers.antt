use Rattle.bucket_grid.proofs.OneOwner.{one_owner}
use Rattle.bucket_grid.proofs.laws.owners_are_one.Goals as goal

pub returns : goal.returns
returns c a b x y h k = one_owner a b x y h k
