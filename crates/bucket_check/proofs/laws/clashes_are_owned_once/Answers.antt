use Rattle.bucket_check.proofs.Merged.{owned_once}
use Rattle.bucket_check.proofs.laws.clashes_are_owned_once.Goals as goal

pub returns : goal.returns
returns c version boxes m n p h k = owned_once version boxes m n p h k
