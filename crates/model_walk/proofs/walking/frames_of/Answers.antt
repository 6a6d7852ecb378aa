use Rattle.model_walk.proofs.WalkMade.{frames_placed}
use Rattle.model_walk.proofs.walking.frames_of.Goals as goal

pub returns-in-Ok : goal.returns-in-Ok
returns-in-Ok c = frames_placed c.of-in-Ok.result c.args.exchange.now c.args.scale c.args.mode c.in-Ok.chains c.of-in-Ok.ensures
