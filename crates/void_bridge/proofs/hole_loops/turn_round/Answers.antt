use Rattle.void_bridge.proofs.HolesRead.{turned_round}
use Rattle.void_bridge.proofs.hole_loops.turn_round.Goals as goal

pub returns : goal.returns
returns c = turned_round c.args.corners.now c.reverse.new.self c.reverse.ensures.after
