use Rattle.clash_publish.proofs.Reasons.{clashes_listed}
use Rattle.clash_publish.proofs.laws.clashes_are_listed.Goals as goal

pub returns : goal.returns
returns c = clashes_listed
