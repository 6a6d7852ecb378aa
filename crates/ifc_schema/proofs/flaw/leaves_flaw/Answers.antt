use Rattle.std.proofs.Common.{sym, ◌∙◌}
use Rattle.p21_values.proofs.Turns.{turn, ended}
use Rattle.ifc_schema.specs.Flaws.{LeafFlaw}
use Rattle.ifc_schema.proofs.Firsts.{flawed_next, sound_next, sound_all}
use Rattle.ifc_schema.proofs.flaw.leaves_flaw.Goals as goal

pub returns-then-is_some : goal.returns-then-is_some
returns-then-is_some c =
    let t = turn c.args.items.now c.loop-item.yielded (cc) _ c.loop-item.yielded_by _ c.in-Some.is c.next.ensures.steps in
    flawed_next (LeafFlaw c.args.exchange.now c.args.leaf) c.args.items.now c.loop-item.yielded c.in-Some.item c.leaf_flaw-flaw.result t c.loop-item.invariant (sym c.is_some.ensures ∙ c.if-is_some.true) c.leaf_flaw-flaw.ensures

pub loop-item-preserved : goal.loop-item-preserved
loop-item-preserved c =
    let t = turn c.args.items.now c.loop-item.yielded (cc) _ c.loop-item.yielded_by _ c.in-Some.is c.next.ensures.steps in
    sound_next (LeafFlaw c.args.exchange.now c.args.leaf) c.args.items.now c.loop-item.yielded c.in-Some.item c.leaf_flaw-flaw.result t c.loop-item.invariant (sym c.is_some.ensures ∙ c.if-is_some.false) c.leaf_flaw-flaw.ensures

pub returns : goal.returns
returns c = sound_all (LeafFlaw c.args.exchange.now c.args.leaf) c.args.items.now c.loop-item.yielded (ended c.args.items.now c.loop-item.yielded (cc) _ c.loop-item.yielded_by _ c.in-None.is c.next.ensures.steps) c.loop-item.invariant
