use Rattle.ear_cut.specs.Corners.{nobody}
use Rattle.ear_cut.proofs.Closed.{corner_in_grid}
use Rattle.void_bridge.proofs.bridges.first_end.Goals as goal

pub is_free-requires-clause-c_in : goal.is_free-requires-clause-c_in
is_free-requires-clause-c_in c = corner_in_grid c.args.hole.now c.loop-j.j nobody c.requires.hole_in c.loop-j-test.true
