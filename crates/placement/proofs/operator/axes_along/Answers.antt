use Rattle.placement.proofs.Operating.{no_x, no_y}
use Rattle.placement.proofs.operator.axes_along.Goals as goal

pub returns-in_err-x-clause-axes : goal.returns-in_err-x-clause-axes
returns-in_err-x-clause-axes c =
    rw c.from_residual-in_err-x.ensures (no_x c.args.axis1 c.args.axis2 c.args.axis3 c.in_ok-z.z c.first_direction.result c.second_direction.result c.without.result c.first_direction.ensures c.in_ok-z.ensures c.second_direction.ensures c.without.ensures c.in_err-x.ensures)

pub returns-in_err-y-clause-axes : goal.returns-in_err-y-clause-axes
returns-in_err-y-clause-axes c =
    rw c.from_residual-in_err-y.ensures (no_y c.args.axis1 c.args.axis2 c.args.axis3 c.in_ok-z.z c.in_ok-x.x c.first_direction.result c.second_direction.result c.without.result c.third_direction.result c.first_direction.ensures c.in_ok-z.ensures c.second_direction.ensures c.without.ensures c.in_ok-x.ensures c.third_direction.ensures.direction c.in_err-y.ensures)
