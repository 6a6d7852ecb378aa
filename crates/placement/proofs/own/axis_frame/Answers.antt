use Rattle.placement.proofs.Owning.{without_axes}
use Rattle.placement.proofs.own.axis_frame.Goals as goal

pub returns-in_err-axes-clause-frame : goal.returns-in_err-axes-clause-frame
returns-in_err-axes-clause-frame c = rw c.from_residual.ensures (without_axes c.args.exchange.now c.args.scale c.args.mode c.args.id c.in_err-axes.ensures.none)

pub returns-in_err-location-clause-frame : goal.returns-in_err-location-clause-frame
returns-in_err-location-clause-frame c = rw c.from_residual-in_err-location.ensures (λ f a. c.in_err-location.ensures a.location a.is_location)

pub returns-clause-is_frame : goal.returns-clause-is_frame
returns-clause-is_frame c = c.in_ok-axes.ensures.apart c.lengths_of.result
