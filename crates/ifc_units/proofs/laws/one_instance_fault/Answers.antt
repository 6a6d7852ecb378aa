use Rattle.ifc_units.proofs.InstanceFacts.{one_instance_fault}
use Rattle.ifc_units.proofs.laws.one_instance_fault.Goals as goal

pub returns : goal.returns
returns c = one_instance_fault
