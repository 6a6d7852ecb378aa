use Rattle.placement.proofs.Square.{square}
use Rattle.placement.proofs.OneFrame.{one_location, one_axes, one_axis_frame, one_own_frame, one_carried}
use Rattle.placement.proofs.laws.one_frame.Goals as goal

pub returns : goal.returns
returns c = record { location = one_location; axes = one_axes; square = square; frame = one_axis_frame; own = one_own_frame; carried = one_carried }
