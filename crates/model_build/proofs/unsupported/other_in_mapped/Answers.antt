use Rattle.model_build.proofs.OtherItems.{map_least}
use Rattle.model_build.proofs.unsupported.other_in_mapped.Goals as goal

pub returns : goal.returns
returns c =
    map_least c.args.exchange.now c.args.id c.in_ok-representation.representation c.spelled_items-items.result c.least_other.result c.least_inner.result c.lesser.result
    c.in_ok-representation.ensures c.spelled_items-items.ensures c.lesser.ensures c.least_other.ensures c.least_inner.ensures
