use Rattle.placement.proofs.Owning.{own_from}
use Rattle.placement.proofs.own.own_frame.Goals as goal

pub returns-clause-frame : goal.returns-clause-frame
returns-clause-frame c = own_from c.args.exchange.now c.args.scale c.args.mode c.args.id c.in_ok-to.to c.axis_frame.result c.in_ok-to.ensures c.axis_frame.ensures.frame
