use Rattle.model_walk.proofs.PointsPooled.{IsFilled}
use Rattle.model_walk.proofs.point_pool.points_in.Given as goal

abbrev pub invariant-loop-at : goal.invariant-loop-at
invariant-loop-at l = IsFilled l.exchange l.scale l.mode l.work l.at l.pool
