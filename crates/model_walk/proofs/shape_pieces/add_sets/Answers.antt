use Rattle.std.proofs.Common.{List, [], Some, subst}
use Rattle.p21_values.specs.declared.value.Value21.{Value21}
use Rattle.p21_values.specs.Attributes.{led_to}
use Rattle.p21_values.proofs.Turns.{ended}
use Rattle.faceset.specs.FaceSets.{Joined}
use Rattle.ifc_elements.specs.Sound.{KeptSet}
use Rattle.model_walk.specs.inner.SurfacePieces.{AddsShown, Carried}
use Rattle.model_walk.proofs.PiecesAdded.{shown_none, sets_shown, no_sets}
use Rattle.model_walk.proofs.shape_pieces.add_sets.Goals as goal

pub loop-value-init : goal.loop-value-init
loop-value-init c = record {
  few = c.requires.few;
  added = λ scale mode points are.
      shown_none points c.args.sets.now (Carried (Some c.args.operator) (Joined (KeptSet c.args.exchange.now scale mode) (led_to c.args.exchange.now []))) c.args.out.now.items c.args.so_far (no_sets c.args.exchange.now scale mode (Some c.args.operator));
}

pub loop-value-preserved : goal.loop-value-preserved
loop-value-preserved c = record {
  few = rw c.in-Some-2.is at c.in_ok-more.ensures.few;
  added = λ scale mode points are.
      sets_shown c.args.exchange.now scale mode points c.args.sets.now (Some c.args.operator) c.loop-value.yielded c.in-Some.value c.args.out.now.items c.loop-value.out.items c.add_set.new.out.items c.args.so_far c.loop-value.count c.in-Some-2.more
      (c.loop-value.invariant.added scale mode points are) (rw c.in-Some-2.is at (c.in_ok-more.ensures.added scale mode points are));
}

pub returns-clause-added : goal.returns-clause-added
returns-clause-added c = λ scale mode points are.
    subst (λ (vs : List Value21). AddsShown points c.args.sets.now (Carried (Some c.args.operator) (Joined (KeptSet c.args.exchange.now scale mode) (led_to c.args.exchange.now vs))) c.args.out.now.items c.loop-value.out.items c.args.so_far c.loop-value.count)
    (ended c.args.values.now c.loop-value.yielded (cc) _ c.loop-value.yielded_by _ c.in-None.is c.next.ensures.steps) (c.loop-value.invariant.added scale mode points are)
