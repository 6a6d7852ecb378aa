use Rattle.model_build.proofs.MappingsUnsupported.{origin_told}
use Rattle.model_build.proofs.mapping.is_shifted.Goals as goal

pub returns-else-is_turned : goal.returns-else-is_turned
returns-else-is_turned c =
    origin_told c.args.exchange.now c.args.scale c.args.mode c.args.id c.in-Some.map c.in-Some-referred_at.origin c.is_away.result c.in-Some.ensures c.in-Some-referred_at.ensures c.if-is_turned.ensures c.is_away.ensures
