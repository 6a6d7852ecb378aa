use Rattle.ifc_units.proofs.Unique.{unique}
use Rattle.ifc_units.proofs.laws.one_grid_number.Goals as goal

pub returns : goal.returns
returns c = unique
