use Rattle.placement.proofs.Operating.{one_origin, one_operator_axes, square_operator, one_frame}
use Rattle.placement.proofs.laws.one_operator_frame.Goals as goal

pub returns : goal.returns
returns c = record { origin = one_origin; axes = one_operator_axes; square = square_operator; frame = one_frame }
