use Rattle.std.proofs.Common.{◌≡◌}
use Rattle.model_walk.specs.inner.GuidSlots.{hash_seen}
use Rattle.model_walk.proofs.distinct_guids.hash_of.Given as goal

abbrev pub invariant-loop-at : goal.invariant-loop-at
invariant-loop-at l = l.hash ≡ hash_seen l.at l.chars
