use Rattle.p21_values.proofs.Turns.{turn, ended}
use Rattle.ifc_units.specs.Units.{RefersToOther}
use Rattle.ifc_instances.proofs.Scans.{any_turn, any_past, any_next}
use Rattle.ifc_units.proofs.units.has_other.Goals as goal

pub returns-then-names_other : goal.returns-then-names_other
returns-then-names_other c =
    any_turn (RefersToOther c.args.exchange.now c.args.id) c.args.items.now c.loop-item.yielded c.in-Some.item
    (turn c.args.items.now c.loop-item.yielded (cc) _ c.loop-item.yielded_by _ c.in-Some.is c.next.ensures.steps) c.if-names_other.ensures

pub loop-item-preserved : goal.loop-item-preserved
loop-item-preserved c = any_next (RefersToOther c.args.exchange.now c.args.id) c.loop-item.yielded c.in-Some.item c.if-names_other.ensures c.loop-item.invariant

pub returns : goal.returns
returns c =
    any_past (RefersToOther c.args.exchange.now c.args.id) c.args.items.now c.loop-item.yielded
    (ended c.args.items.now c.loop-item.yielded (cc) _ c.loop-item.yielded_by _ c.in-None.is c.next.ensures.steps) c.loop-item.invariant
