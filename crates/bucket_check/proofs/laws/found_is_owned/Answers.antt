use Rattle.bucket_check.proofs.Local.{found}
use Rattle.bucket_check.proofs.laws.found_is_owned.Goals as goal

pub returns : goal.returns
returns c version boxes cell few are = found version boxes cell few are
