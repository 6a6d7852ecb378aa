use Rattle.ifc_units.proofs.PointFacts.{one_point, one_point_fault, point_apart, point_near}
use Rattle.ifc_units.proofs.laws.one_point.Goals as goal

pub returns : goal.returns
returns c = record { point = one_point; fault = one_point_fault; apart = point_apart; reach = point_near }
