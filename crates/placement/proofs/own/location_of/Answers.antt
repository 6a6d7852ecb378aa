use Rattle.placement.proofs.Owning.{unlocated}
use Rattle.placement.proofs.own.location_of.Goals as goal

pub returns-in-Err : goal.returns-in-Err
returns-in-Err c = unlocated c.args.exchange.now c.args.scale c.args.mode c.args.id c.in_ok-to.to c.in_ok-value.value c.in-Err.field-0 c.in_ok-to.ensures c.in_ok-value.ensures c.in-Err.ensures
