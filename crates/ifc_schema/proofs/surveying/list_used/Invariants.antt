use Rattle.ifc_schema.specs.Used.{Used}
use Rattle.ifc_schema.specs.Surveys.{Lists}
use Rattle.ifc_schema.specs.inner.InstanceFaults.{Below}
use Rattle.ifc_schema.proofs.surveying.list_used.Given as goal

abbrev pub invariant-loop-at : goal.invariant-loop-at
invariant-loop-at l = Lists (Below l.exchange l.at (Used l.exchange)) l.ids.items
