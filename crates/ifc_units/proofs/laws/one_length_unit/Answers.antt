use Rattle.ifc_units.proofs.UnitFacts.{one_unit, one_unit_fault, unit_apart}
use Rattle.ifc_units.proofs.laws.one_length_unit.Goals as goal

pub returns : goal.returns
returns c = record { unit = one_unit; fault = one_unit_fault; apart = unit_apart }
