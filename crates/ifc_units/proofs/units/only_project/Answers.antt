use Rattle.std.proofs.Common.{◌≡◌, [], ◌∷◌, length, ap, find, sym, ◌∙◌}
use Rattle.p21_values.specs.declared.value.Instance.{Instance}
use Rattle.ifc_units.specs.Units.{projects}
use Rattle.ifc_instances.specs.declared.entity.Entity.TheVariants.{Project}
use Rattle.ifc_instances.specs.EntityLookup.{is_a}
use Rattle.ifc_units.proofs.UnitFacts.{first_alone, first_there}
use Rattle.ifc_units.proofs.units.only_project.Goals as goal

pub returns-then-count_projects-ne1-clause-none : goal.returns-then-count_projects-ne1-clause-none
returns-then-count_projects-ne1-clause-none c = λ project one. c.if-count_projects-ne1.true (c.count_projects.ensures ∙ ap length one)

pub returns-clause-some : goal.returns-clause-some
returns-clause-some c =
    let world = c.args.exchange.now in
    first_alone (is_a Project) world c.first_project.result (c.first_project.ensures ∙ ap (find (is_a Project)) c.iter.ensures.same)
    (sym c.count_projects.ensures ∙ c.if-count_projects-ne1.false)

pub returns-clause-none : goal.returns-clause-none
returns-clause-none c =
    let world = c.args.exchange.now in
    first_there (is_a Project) world c.first_project.result ((project : Instance) → projects world ≡ project ∷ [] → ⊥)
    (c.first_project.ensures ∙ ap (find (is_a Project)) c.iter.ensures.same) (sym c.count_projects.ensures ∙ c.if-count_projects-ne1.false)
