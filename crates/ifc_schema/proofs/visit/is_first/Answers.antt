use Rattle.std.proofs.Common.{arith}
use Rattle.ifc_schema.proofs.Following.{first_there}
use Rattle.ifc_schema.proofs.visit.is_first.Goals as goal

pub returns-else-at-eq0-clause-first : goal.returns-else-at-eq0-clause-first
returns-else-at-eq0-clause-first c =
    first_there c.args.exchange.now c.args.at c.instance.result c.instance-else-at-eq0.result c.id.result c.id-else-at-eq0.result (omega arith) c.requires.within c.requires.rises
    c.instance.ensures c.instance-else-at-eq0.ensures c.id.ensures c.id-else-at-eq0.ensures
