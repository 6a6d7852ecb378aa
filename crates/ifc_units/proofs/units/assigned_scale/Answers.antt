use Rattle.std.proofs.Common.{subst, sym, ◌∙◌}
use Rattle.ifc_units.specs.Units.{IsOnly, IsUnitAmong}
use Rattle.ifc_units.proofs.UnitFacts.{scale_none, none_told}
use Rattle.ifc_units.proofs.units.assigned_scale.Goals as goal

pub returns-in_default-clause-none : goal.returns-in_default-clause-none
returns-in_default-clause-none c = λ scale h.
    none_told c.only_unit.result (IsOnly (IsUnitAmong c.args.exchange.now c.listed.result)) c.only_unit.ensures.none c.in_default.not-Some h.id
    (subst (λ vs. IsOnly (IsUnitAmong c.args.exchange.now vs) h.id) (sym c.listed.ensures) h.one_unit)

pub returns-clause-none : goal.returns-clause-none
returns-clause-none c =
    scale_none c.args.exchange.now c.args.assignment.now c.in-Some-look.unit c.in-Some.id c.unit_scale.result
    (subst (λ vs. IsOnly (IsUnitAmong c.args.exchange.now vs) c.in-Some.id) c.listed.ensures c.in-Some.ensures.some)
    (sym c.look.ensures ∙ c.in-Some-look.is) c.unit_scale.ensures.none
