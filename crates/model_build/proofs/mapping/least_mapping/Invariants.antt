use Rattle.std.proofs.Common.{take}
use Rattle.ifc_instances.specs.inner.Least.{LeastOf}
use Rattle.model_build.specs.FaultyInstances.{ShownBy}
use Rattle.model_build.specs.inner.Showing.{ItemShows}
use Rattle.model_build.proofs.mapping.least_mapping.Given as goal

abbrev pub invariant-loop-id : goal.invariant-loop-id
invariant-loop-id l = LeastOf (ShownBy (ItemShows l.exchange l.scale l.mode) (take l.id-index l.ids)) l.least
