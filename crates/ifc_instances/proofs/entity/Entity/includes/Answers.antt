use Rattle.std.proofs.Common.{ap, ◌∙◌}
use Rattle.ifc_instances.specs.inner.Coded.{has_code}
use Rattle.ifc_instances.proofs.CodedEntities.{is_a_coded}
use Rattle.ifc_instances.proofs.entity.Entity.includes.Goals as goal

pub returns : goal.returns
returns c = c.has_code.ensures ∙ ap (has_code c.args.self) c.code.ensures ∙ is_a_coded c.args.self c.args.instance.now.keyword
