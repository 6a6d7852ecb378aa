use Rattle.std.proofs.Common.{◌≡◌, [], filter}
use Rattle.ifc_instances.specs.declared.entity.Entity.TheVariants.{Project}
use Rattle.ifc_instances.specs.EntityLookup.{is_a}
use Rattle.ifc_units.proofs.units.first_project.Given as goal

abbrev pub invariant-loop-instance : goal.invariant-loop-instance
invariant-loop-instance l = filter (is_a Project) l.yielded ≡ []
