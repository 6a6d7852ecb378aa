use Rattle.clearance.proofs.Surfaces.{elements_within}
use Rattle.clearance.proofs.laws.near_elements_have_close_boxes.Goals as goal

pub returns : goal.returns
returns c = elements_within
