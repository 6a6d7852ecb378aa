use Rattle.placement.proofs.Square.{squares}
use Rattle.placement.proofs.axes.axes_of.Goals as goal

pub returns-clause-square : goal.returns-clause-square
returns-clause-square c = squares c.args.exchange.now c.args.id c.in_ok-given.given.axis c.in_ok-given.given.reference c.axes_along.result c.in_ok-given.ensures.some c.axes_along.ensures.axes
