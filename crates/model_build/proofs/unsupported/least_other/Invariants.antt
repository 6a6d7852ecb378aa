use Rattle.ifc_instances.specs.inner.Least.{LeastOf}
use Rattle.model_build.specs.inner.Showing.{HasOther}
use Rattle.model_build.proofs.unsupported.least_other.Given as goal

abbrev pub invariant-loop-value : goal.invariant-loop-value
invariant-loop-value l = LeastOf (HasOther l.exchange l.yielded) l.least
