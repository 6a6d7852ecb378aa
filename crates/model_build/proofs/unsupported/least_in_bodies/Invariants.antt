use Rattle.std.proofs.Common.{take}
use Rattle.ifc_instances.specs.inner.Least.{LeastOf}
use Rattle.model_build.specs.FaultyInstances.{ShownBy}
use Rattle.model_build.specs.inner.Showing.{BodyShows}
use Rattle.model_build.proofs.unsupported.least_in_bodies.Given as goal

abbrev pub invariant-loop-id : goal.invariant-loop-id
invariant-loop-id l = LeastOf (ShownBy (BodyShows l.exchange) (take l.id-index l.ids)) l.least
