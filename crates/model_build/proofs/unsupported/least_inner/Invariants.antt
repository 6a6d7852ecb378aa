use Rattle.ifc_instances.specs.inner.Least.{LeastOf}
use Rattle.model_build.specs.inner.Showing.{HasInner}
use Rattle.model_build.proofs.unsupported.least_inner.Given as goal

abbrev pub invariant-loop-value : goal.invariant-loop-value
invariant-loop-value l = LeastOf (HasInner l.exchange l.yielded) l.least
