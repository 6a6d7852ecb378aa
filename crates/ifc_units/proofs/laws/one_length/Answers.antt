use Rattle.ifc_units.proofs.LengthFacts.{one_length, one_length_fault, length_apart}
use Rattle.ifc_units.proofs.laws.one_length.Goals as goal

pub returns : goal.returns
returns c = record { length = one_length; fault = one_length_fault; apart = length_apart }
