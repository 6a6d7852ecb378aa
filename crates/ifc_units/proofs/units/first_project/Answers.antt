use Rattle.std.proofs.Common.{sym, ◌∙◌}
use Rattle.p21_values.proofs.Turns.{so_far, turn, ended}
use Rattle.ifc_instances.specs.declared.entity.Entity.TheVariants.{Project}
use Rattle.ifc_instances.specs.EntityLookup.{is_a}
use Rattle.ifc_units.proofs.UnitFacts.{first_found, first_lacks}
use Rattle.ifc_units.proofs.units.first_project.Goals as goal

pub returns-then-includes : goal.returns-then-includes
returns-then-includes c =
    first_found (is_a Project) c.args.instances.now c.loop-instance.yielded c.in-Some.instance (so_far c.args.instances.now c.loop-instance.yielded (cc) _ c.loop-instance.yielded_by)
    (turn c.args.instances.now c.loop-instance.yielded (cc) _ c.loop-instance.yielded_by _ c.in-Some.is c.next.ensures.steps) c.loop-instance.invariant (sym c.includes.ensures ∙ c.if-includes.true)

pub returns : goal.returns
returns c =
    first_lacks (is_a Project) c.args.instances.now c.loop-instance.yielded
    (ended c.args.instances.now c.loop-instance.yielded (cc) _ c.loop-instance.yielded_by _ c.in-None.is c.next.ensures.steps) c.loop-instance.invariant
