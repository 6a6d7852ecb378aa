use Rattle.ifc_schema.proofs.ElementRows.{guid_passes}
use Rattle.ifc_schema.proofs.flaw.identifier_flaw.Goals as goal

pub returns-in-Some : goal.returns-in-Some
returns-in-Some c = guid_passes c.args.value.now c.in-Some._guid.now c.in-Some.ensures.guid c.in-Some.ensures.words
