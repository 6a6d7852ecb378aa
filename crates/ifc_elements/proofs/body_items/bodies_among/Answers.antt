use Rattle.std.proofs.Common.{List, map, Some, ap, ◌∙◌}
use Rattle.p21_values.specs.declared.value.Value21.{Value21}
use Rattle.p21_values.specs.InstanceLookup.{look}
use Rattle.p21_values.proofs.Turns.{ended}
use Rattle.ifc_elements.specs.Items.{bodies_among}
use Rattle.ifc_elements.proofs.BodiesCollected.{bodies_more}
use Rattle.ifc_elements.proofs.body_items.bodies_among.Goals as goal

pub loop-value-preserved : goal.loop-value-preserved
loop-value-preserved c =
    let world = c.args.exchange.now in
    bodies_more world c.loop-value.yielded c.in-Some.value (map (look world) c.loop-value.found.items) (map (look world) c.add_body.new.found.items) c.loop-value.invariant c.in_ok-add_body.ensures

pub returns : goal.returns
returns c = c.loop-value.invariant ∙ ap (λ (vs : List Value21). map Some (bodies_among c.args.exchange.now vs)) (ended c.args.values.now c.loop-value.yielded (cc) _ c.loop-value.yielded_by _ c.in-None.is c.next.ensures.steps)
