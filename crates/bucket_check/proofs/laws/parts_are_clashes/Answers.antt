use Rattle.bucket_check.proofs.Merged.{merged}
use Rattle.bucket_check.proofs.laws.parts_are_clashes.Goals as goal

pub returns : goal.returns
returns c version boxes few are all rising same = merged version boxes few are all rising same
