use Rattle.p21_values.proofs.Turns.{ended}
use Rattle.ifc_units.specs.Units.{RefersToUnit}
use Rattle.ifc_units.proofs.UnitFacts.{none_told}
use Rattle.ifc_instances.proofs.Scans.{any_past, any_next}
use Rattle.ifc_units.proofs.units.first_unit.Goals as goal

pub loop-item-preserved : goal.loop-item-preserved
loop-item-preserved c = λ id.
    any_next (RefersToUnit c.args.exchange.now id) c.loop-item.yielded c.in-Some.item
    (none_told c.unit_named.result (λ n. RefersToUnit c.args.exchange.now n c.in-Some.item) c.unit_named.ensures.none c.in_default.not-Some id) (c.loop-item.invariant id)

pub returns-clause-none : goal.returns-clause-none
returns-clause-none c = λ id h.
    any_past (RefersToUnit c.args.exchange.now id) c.args.items.now c.loop-item.yielded
    (ended c.args.items.now c.loop-item.yielded (cc) _ c.loop-item.yielded_by _ c.in-None.is c.next.ensures.steps) (c.loop-item.invariant id) h
