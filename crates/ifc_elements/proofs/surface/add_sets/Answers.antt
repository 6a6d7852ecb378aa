use Rattle.std.proofs.Common.{List, length, subst}
use Rattle.p21_values.specs.declared.value.Value21.{Value21}
use Rattle.p21_values.specs.Attributes.{led_to}
use Rattle.p21_values.proofs.Turns.{turn, ended}
use Rattle.faceset.specs.FaceSets.{Joined}
use Rattle.ifc_elements.specs.Sound.{ReadySet, KeptSet, Adds}
use Rattle.std.proofs.lemmas.Bool.{MatchBool-at_true, MatchBool-at_false}
use Rattle.ifc_elements.proofs.TrianglesAdded.{adds_more, unready_there}
use Rattle.ifc_elements.proofs.surface.add_sets.Goals as goal

pub returns-then-not-added-clause-near : goal.returns-then-not-added-clause-near
returns-then-not-added-clause-near c = λ before. c.in_ok-added.ensures.near (c.loop-value.invariant.near before)

pub returns-then-not-added-clause-added : goal.returns-then-not-added-clause-added
returns-then-not-added-clause-added c = λ scale mode listed are.
    let t = turn c.args.values.now c.loop-value.yielded (cc) _ c.loop-value.yielded_by _ c.in-Some.is c.next.ensures.steps in
    unready_there (ReadySet c.args.exchange.now listed) c.args.values.now (length c.loop-value.yielded) c.in-Some.value t.0 t.1
    (MatchBool-at_false _ _ c.if-not-added.true (c.in_ok-added.ensures.added scale mode listed are))

pub loop-value-preserved : goal.loop-value-preserved
loop-value-preserved c = record {
  near = λ before. c.in_ok-added.ensures.near (c.loop-value.invariant.near before);
  added = λ scale mode listed are.
      adds_more (KeptSet c.args.exchange.now scale mode) c.args.exchange.now c.loop-value.yielded c.in-Some.value c.args.out.now.items c.loop-value.out.items c.add_set.new.out.items
      (c.loop-value.invariant.added scale mode listed are) (MatchBool-at_true _ _ c.if-not-added.false (c.in_ok-added.ensures.added scale mode listed are));
}

pub returns-clause-added : goal.returns-clause-added
returns-clause-added c = λ scale mode listed are.
    subst (λ (vs : List Value21). Adds (Joined (KeptSet c.args.exchange.now scale mode) (led_to c.args.exchange.now vs)) c.args.out.now.items c.loop-value.out.items)
    (ended c.args.values.now c.loop-value.yielded (cc) _ c.loop-value.yielded_by _ c.in-None.is c.next.ensures.steps) (c.loop-value.invariant.added scale mode listed are)
