use Rattle.placement.proofs.Aligned.{no_axes}
use Rattle.placement.proofs.axes.axes_along.Goals as goal

pub returns-in_err-x-clause-axes : goal.returns-in_err-x-clause-axes
returns-in_err-x-clause-axes c =
    rw c.from_residual-in_err-x.ensures (no_axes c.args.axis c.args.reference c.in_ok-z.z c.first_direction.result c.second_direction.result c.without.result c.first_direction.ensures c.in_ok-z.ensures c.second_direction.ensures c.without.ensures c.in_err-x.ensures)
