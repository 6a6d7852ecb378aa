use Rattle.tri_pierce.specs.Piercing.{Pierces}
use Rattle.tri_pierce.proofs.CornerOrders.{pierces_along}
use Rattle.tri_pierce.proofs.piercing.test_pierces.Goals as goal

pub returns : goal.returns
unfolding Pierces
returns c = pierces_along _ _ _ _ c.corners_of.ensures.value c.corners_of-2.ensures.value c.corners_pierce.ensures
