use Rattle.ear_cut.specs.Corners.{nobody}
use Rattle.ear_cut.proofs.Closed.{corner_in_grid}
use Rattle.ear_cut.proofs.fans.spot_at.Goals as goal

pub seen-requires : goal.seen-requires
seen-requires c = corner_in_grid c.args.left.now c.args.i nobody c.requires.left_in c.requires.i_in
