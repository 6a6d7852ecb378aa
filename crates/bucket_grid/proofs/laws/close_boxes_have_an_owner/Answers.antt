use Rattle.bucket_grid.proofs.Near.{close_boxes}
use Rattle.bucket_grid.proofs.laws.close_boxes_have_an_owner.Goals as goal

pub returns : goal.returns
returns c = close_boxes
