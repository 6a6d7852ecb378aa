use Rattle.ifc_units.proofs.PointFacts.{one_points, one_points_fault, points_apart}
use Rattle.ifc_units.proofs.laws.one_list_of_points.Goals as goal

pub returns : goal.returns
returns c = record { points = one_points; fault = one_points_fault; apart = points_apart }
