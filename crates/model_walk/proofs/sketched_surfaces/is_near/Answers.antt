use Rattle.placement.specs.Frames.{carried}
use Rattle.model_walk.proofs.SurfacesPlaced.{near_point}
use Rattle.model_walk.proofs.sketched_surfaces.is_near.Goals as goal

pub returns : goal.returns
returns c = near_point c.place.result c.is_some.result (carried c.args.frame.now c.args.point) c.is_some.ensures c.place.ensures
