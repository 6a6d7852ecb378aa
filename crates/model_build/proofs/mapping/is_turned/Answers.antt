use Rattle.model_build.proofs.MappingsUnsupported.{turned_told, never_plain}
use Rattle.model_build.proofs.mapping.is_turned.Goals as goal

pub returns-in-Some : goal.returns-in-Some
returns-in-Some c = turned_told c.args.exchange.now c.args.id c.in-Some.axes c.ne.result c.ne.ensures c.in-Some.ensures.axes

pub returns-in-None : goal.returns-in-None
returns-in-None c = never_plain c.args.exchange.now c.args.id c.in-None.ensures.none
