use Rattle.std.proofs.Common.{List, length, subst}
use Rattle.p21_values.specs.declared.value.Value21.{Value21}
use Rattle.p21_values.specs.Attributes.{led_to}
use Rattle.p21_values.proofs.Turns.{turn, ended}
use Rattle.faceset.specs.FaceSets.{Joined}
use Rattle.ifc_elements.specs.Sound.{ReadyItem, KeptItem, Adds}
use Rattle.std.proofs.lemmas.Bool.{MatchBool-at_true, MatchBool-at_false}
use Rattle.ifc_elements.proofs.TrianglesAdded.{adds_more, unready_there}
use Rattle.ifc_elements.proofs.surface.add_items.Goals as goal

pub returns-then-not-added : goal.returns-then-not-added
returns-then-not-added c = λ listed are.
    let t = turn c.args.values.now c.loop-value.yielded (cc) _ c.loop-value.yielded_by _ c.in-Some.is c.next.ensures.steps in
    unready_there (ReadyItem c.args.exchange.now c.args.scale c.args.mode listed) c.args.values.now (length c.loop-value.yielded) c.in-Some.value t.0 t.1
    (MatchBool-at_false _ _ c.if-not-added.true (c.in_ok-added.ensures listed are))

pub loop-value-preserved : goal.loop-value-preserved
loop-value-preserved c = λ listed are.
    adds_more (KeptItem c.args.exchange.now c.args.scale c.args.mode) c.args.exchange.now c.loop-value.yielded c.in-Some.value c.args.out.now.items c.loop-value.out.items c.add_item.new.out.items
    (c.loop-value.invariant listed are) (MatchBool-at_true _ _ c.if-not-added.false (c.in_ok-added.ensures listed are))

pub returns : goal.returns
returns c = λ listed are.
    subst (λ (vs : List Value21). Adds (Joined (KeptItem c.args.exchange.now c.args.scale c.args.mode) (led_to c.args.exchange.now vs)) c.args.out.now.items c.loop-value.out.items)
    (ended c.args.values.now c.loop-value.yielded (cc) _ c.loop-value.yielded_by _ c.in-None.is c.next.ensures.steps) (c.loop-value.invariant listed are)
