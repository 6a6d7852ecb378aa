use Rattle.std.proofs.Common.{Some, None}
use Rattle.ifc_schema.specs.Surveys.{used_ids, mapped_ids}
use Rattle.model_build.proofs.UnsupportedLeast.{item_least, item_stage}
use Rattle.model_build.proofs.checks.item_fault.Goals as goal

pub returns-in-Some : goal.returns-in-Some
returns-in-Some c =
    item_stage c.args.exchange.now c.args.scale c.args.mode c.in-Some.id
    (item_least c.args.exchange.now c.args.scale c.args.mode (used_ids c.args.survey.now) (mapped_ids c.args.survey.now) c.used.result.now c.mapped.result.now c.used-2.result.now
    c.least_in_bodies-in_bodies.result c.least_in_mapped-in_mapped.result c.least_mapping-mapping.result c.lesser.result (Some c.in-Some.id) c.requires.used c.requires.mapped c.used.ensures c.mapped.ensures c.used-2.ensures
    c.least_in_bodies-in_bodies.ensures c.least_in_mapped-in_mapped.ensures c.least_mapping-mapping.ensures c.lesser.ensures c.in-Some.ensures)

pub returns-in-None : goal.returns-in-None
returns-in-None c =
    item_least c.args.exchange.now c.args.scale c.args.mode (used_ids c.args.survey.now) (mapped_ids c.args.survey.now) c.used.result.now c.mapped.result.now c.used-2.result.now
    c.least_in_bodies-in_bodies.result c.least_in_mapped-in_mapped.result c.least_mapping-mapping.result c.lesser.result None c.requires.used c.requires.mapped c.used.ensures c.mapped.ensures c.used-2.ensures
    c.least_in_bodies-in_bodies.ensures c.least_in_mapped-in_mapped.ensures c.least_mapping-mapping.ensures c.lesser.ensures c.in-None.ensures
