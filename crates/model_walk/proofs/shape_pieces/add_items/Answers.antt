use Rattle.std.proofs.Common.{List, [], ◌∷◌, ◌++◌, refl, subst}
use Rattle.p21_values.specs.declared.value.Value21.{Value21}
use Rattle.p21_values.specs.Attributes.{led_to}
use Rattle.p21_values.proofs.Turns.{ended}
use Rattle.ifc_instances.proofs.LedTo.{led_append}
use Rattle.ifc_elements.specs.Items.{spelled_items}
use Rattle.model_walk.specs.inner.Stocked.{AddsPieces}
use Rattle.model_walk.proofs.PiecesAdded.{pieces_none, pieces_more}
use Rattle.model_walk.proofs.shape_pieces.add_items.Goals as goal

pub loop-value-init : goal.loop-value-init
loop-value-init c = record {
  few = c.requires.few;
  added = λ points are. pieces_none c.args.exchange.now c.args.scale c.args.mode points c.args.sets.now (led_to c.args.exchange.now []) c.args.out.now.items c.args.so_far refl;
}

pub loop-value-preserved : goal.loop-value-preserved
loop-value-preserved c = record {
  few = rw c.in-Some-2.is at c.in_ok-more.ensures.few;
  added = λ points are.
      let world = c.args.exchange.now in
      let given = c.loop-value.yielded in
      let v = c.in-Some.value in
      pieces_more world c.args.scale c.args.mode points c.args.sets.now (led_to world given) (led_to world (v ∷ [])) (led_to world (given ++ v ∷ [])) c.args.out.now.items c.loop-value.out.items c.add_item.new.out.items
      c.args.so_far c.loop-value.count c.in-Some-2.more (led_append world given (v ∷ [])) (c.loop-value.invariant.added points are) (rw c.in-Some-2.is at (c.in_ok-more.ensures.added points are));
}

pub returns-clause-added : goal.returns-clause-added
returns-clause-added c = λ points are.
    subst (λ (vs : List Value21). AddsPieces c.args.exchange.now c.args.scale c.args.mode points c.args.sets.now (led_to c.args.exchange.now vs) c.args.out.now.items c.loop-value.out.items c.args.so_far c.loop-value.count)
    (ended (spelled_items c.args.representation.now) c.loop-value.yielded (cc) _ c.loop-value.yielded_by _ c.in-None.is c.next.ensures.steps) (c.loop-value.invariant.added points are)
