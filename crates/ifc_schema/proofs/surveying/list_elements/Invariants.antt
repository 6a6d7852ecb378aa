use Rattle.ifc_schema.specs.Surveys.{Lists, IsModelElement}
use Rattle.ifc_schema.specs.inner.InstanceFaults.{Below}
use Rattle.ifc_schema.proofs.surveying.list_elements.Given as goal

abbrev pub invariant-loop-at : goal.invariant-loop-at
invariant-loop-at l = Lists (Below l.exchange l.at (IsModelElement l.exchange)) l.ids.items
