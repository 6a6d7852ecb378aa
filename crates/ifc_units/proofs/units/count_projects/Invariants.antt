use Rattle.std.proofs.Common.{◌≡◌, ◌≤◌, length, filter}
use Rattle.ifc_instances.specs.declared.entity.Entity.TheVariants.{Project}
use Rattle.ifc_instances.specs.EntityLookup.{is_a}
use Rattle.ifc_units.proofs.units.count_projects.Given as goal

abbrev pub invariant-loop-instance : goal.invariant-loop-instance
invariant-loop-instance l = (l.count ≡ length (filter (is_a Project) l.yielded)) × (l.count ≤ length l.yielded)
