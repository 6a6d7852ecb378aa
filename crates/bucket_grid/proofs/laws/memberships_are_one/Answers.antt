use Rattle.bucket_grid.proofs.OneOwner.{one_number}
use Rattle.bucket_grid.proofs.laws.memberships_are_one.Goals as goal

pub returns : goal.returns
returns c version m n h k = one_number version m n h k
