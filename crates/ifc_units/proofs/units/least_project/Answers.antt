use Rattle.std.proofs.Common.{sym, ◌∙◌}
use Rattle.ifc_instances.specs.declared.entity.Entity.TheVariants.{Project}
use Rattle.ifc_instances.specs.EntityLookup.{is_a}
use Rattle.ifc_units.proofs.UnitFacts.{least_found, none_least}
use Rattle.ifc_units.proofs.units.least_project.Goals as goal

pub returns-in-Some : goal.returns-in-Some
returns-in-Some c = rw (← c.iter.ensures.same, c.id.ensures) (least_found c.iter.result (is_a Project) c.in-Some.project (rw c.iter.ensures.same c.iter.ensures.rises) (sym c.first_project.ensures ∙ c.in-Some.is))

pub returns-in-None : goal.returns-in-None
returns-in-None c = rw (← c.iter.ensures.same) (none_least c.iter.result (is_a Project) (sym c.first_project.ensures ∙ c.in-None.is))
