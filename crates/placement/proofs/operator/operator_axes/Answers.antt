use Rattle.placement.proofs.Operating.{squares}
use Rattle.placement.proofs.operator.operator_axes.Goals as goal

pub returns-clause-square : goal.returns-clause-square
returns-clause-square c = squares c.args.exchange.now c.args.id c.in_ok-given.given.axis1 c.in_ok-given.given.axis2 c.in_ok-given.given.axis3 c.axes_along.result c.in_ok-given.ensures.some c.axes_along.ensures.axes
