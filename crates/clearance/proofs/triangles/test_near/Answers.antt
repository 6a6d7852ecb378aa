use Rattle.clearance.proofs.OffBoxes.{near_along}
use Rattle.clearance.proofs.triangles.test_near.Goals as goal

pub returns : goal.returns
returns c = near_along _ _ _ _ c.args.d c.corners_of-corners.ensures.value c.corners_of.ensures.value c.planes_near.ensures
