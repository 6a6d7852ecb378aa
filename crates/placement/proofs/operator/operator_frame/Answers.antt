use Rattle.placement.proofs.Operating.{without_operator_axes}
use Rattle.placement.proofs.operator.operator_frame.Goals as goal

pub returns-in_err-axes-clause-frame : goal.returns-in_err-axes-clause-frame
returns-in_err-axes-clause-frame c = rw c.from_residual.ensures (without_operator_axes c.args.exchange.now c.args.scale c.args.mode c.args.id c.in_err-axes.ensures.none)

pub returns-in_err-origin-clause-frame : goal.returns-in_err-origin-clause-frame
returns-in_err-origin-clause-frame c = rw c.from_residual-in_err-origin.ensures (λ f a. c.in_err-origin.ensures a.origin a.is_origin)

pub returns-clause-is_frame : goal.returns-clause-is_frame
returns-clause-is_frame c = c.in_ok-axes.ensures.apart c.lengths_of.result
