use Rattle.ifc_units.proofs.UnitFacts.{only_if, not_only, none_told}
use Rattle.ifc_units.specs.Units.{IsUnitAmong}
use Rattle.ifc_units.proofs.units.only_unit.Goals as goal

pub returns-in_default-clause-none : goal.returns-in_default-clause-none
returns-in_default-clause-none c = λ id h. none_told c.first_unit.result (IsUnitAmong c.args.exchange.now c.args.items.now) c.first_unit.ensures.none c.in_default.not-Some id h.holds

pub returns-then-has_other-clause-none : goal.returns-then-has_other-clause-none
returns-then-has_other-clause-none c = not_only c.args.exchange.now c.args.items.now c.in-Some.id c.in-Some.ensures.some c.if-has_other.ensures

pub returns-clause-some : goal.returns-clause-some
returns-clause-some c = only_if c.args.exchange.now c.args.items.now c.in-Some.id c.in-Some.ensures.some c.if-has_other.ensures
