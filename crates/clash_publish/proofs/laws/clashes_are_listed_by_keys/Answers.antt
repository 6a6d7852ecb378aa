use Rattle.clash_publish.proofs.Keyed.{key_clashes}
use Rattle.clash_publish.proofs.laws.clashes_are_listed_by_keys.Goals as goal

pub returns : goal.returns
returns c version snapshot = key_clashes version snapshot
