use Rattle.std.proofs.Common.{sym, ◌∙◌}
use Rattle.model_build.proofs.MappingsUnsupported.{mapping_least}
use Rattle.model_build.proofs.mapping.other_mapping.Goals as goal

pub returns : goal.returns
returns c =
    mapping_least c.args.exchange.now c.args.scale c.args.mode c.args.id c.in_ok-item.item c.other_origin-own.result c.other_target.result c.lesser.result
    c.in_ok-item.ensures (sym c.is_mapped_item.ensures ∙ c.if-not-is_mapped_item.false) c.lesser.ensures c.other_origin-own.ensures c.other_target.ensures
