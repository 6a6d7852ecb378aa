use Rattle.std.proofs.Common.{ap, ◌∙◌}
use Rattle.ifc_instances.specs.inner.Coded.{by_code}
use Rattle.ifc_instances.proofs.CodedEntities.{entity_coded}
use Rattle.ifc_instances.proofs.entity.Entity.at.Goals as goal

pub returns : goal.returns
returns c = c.by_code.ensures ∙ ap by_code c.code.ensures ∙ entity_coded c.args.instance.now.keyword
