use Rattle.bucket_check.proofs.Merged.{all_owned}
use Rattle.bucket_check.proofs.laws.clashes_are_owned.Goals as goal

pub returns : goal.returns
returns c version boxes few are p h = all_owned version boxes few are p h
