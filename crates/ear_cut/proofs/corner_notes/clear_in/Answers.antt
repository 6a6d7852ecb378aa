use Rattle.std.proofs.Common.{◌<◌, length, arith}
use Rattle.ear_cut.specs.Corners.{nobody}
use Rattle.ear_cut.proofs.Closed.{corner_in_grid}
use Rattle.ear_cut.proofs.corner_notes.clear_in.Goals as goal

pub seen-requires : goal.seen-requires
seen-requires c =
    let w : c.loop-i.i < length c.args.left.now = omega (arith, c.loop-i-test.true, c.requires.end_in) in
    corner_in_grid c.args.left.now c.loop-i.i nobody c.requires.left_in w
