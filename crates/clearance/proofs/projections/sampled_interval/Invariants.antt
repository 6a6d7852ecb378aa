use Rattle.clearance.specs.inner.Projections.{IsInterval}
use Rattle.clearance.proofs.projections.sampled_interval.Given as goal

abbrev pub invariant-loop-k : goal.invariant-loop-k
invariant-loop-k l = IsInterval l.found
