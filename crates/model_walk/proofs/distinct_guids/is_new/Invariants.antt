use Rattle.std.proofs.Common.{length}
use Rattle.model_walk.specs.inner.GuidSlots.{guids_seen, IsSought}
use Rattle.model_walk.proofs.distinct_guids.is_new.Given as goal

abbrev pub invariant-loop-other : goal.invariant-loop-other
invariant-loop-other l = IsSought (length l.last) (guids_seen l.elements) l.guid (length l.before) l.other

abbrev pub decreases-loop-other : goal.decreases-loop-other
decreases-loop-other l = l.other
