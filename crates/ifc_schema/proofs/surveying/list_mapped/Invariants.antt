use Rattle.ifc_schema.specs.Used.{IsMapped}
use Rattle.ifc_schema.specs.Surveys.{Lists}
use Rattle.ifc_schema.specs.inner.InstanceFaults.{Below}
use Rattle.ifc_schema.proofs.surveying.list_mapped.Given as goal

abbrev pub invariant-loop-at : goal.invariant-loop-at
invariant-loop-at l = Lists (Below l.exchange l.at (IsMapped l.exchange)) l.ids.items
