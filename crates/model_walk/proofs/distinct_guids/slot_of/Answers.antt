use Rattle.std.proofs.Common.{◌%◌, ap}
use Rattle.model_walk.specs.inner.GuidSlots.{slot_seen}
use Rattle.model_walk.proofs.distinct_guids.slot_of.Goals as goal

pub returns-clause-same : goal.returns-clause-same
unfolding slot_seen
returns-clause-same c = ap (λ h. h % c.args.size) c.hash_of.ensures
