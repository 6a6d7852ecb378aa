use Rattle.std.proofs.Common.{◌≡◌, ◌++◌, ◌∷◌, [], sym, ap, ◌∙◌}
use Rattle.std.proofs.lemmas.List.Sorted.{IsNonDecreasingBy-from_sort}
use Rattle.p21_values.proofs.Turns.{turn, spent}
use Rattle.spatial_tree.proofs.Listing.{ids_pushed, ids_passed, ids_all}
use Rattle.spatial_tree.proofs.build.storeys_of.Goals as goal

pub loop-instance-preserved-in-Continue-1 : goal.loop-instance-preserved-in-Continue-1
loop-instance-preserved-in-Continue-1 c =
    let at = turn c.args.instances.now c.loop-instance.yielded (cc) _ c.loop-instance.yielded_by _ c.in-Some.is c.next.ensures.steps in
    let e : c.push.new.self.items ≡ c.loop-instance.storeys.items ++ c.in-Some.instance.id ∷ [] = c.in_ok-push.ensures.items ∙ ap (λ n. c.loop-instance.storeys.items ++ n ∷ []) c.id.ensures in
    ids_pushed c.args.instances.now c.loop-instance.yielded c.in-Some.instance c.loop-instance.storeys.items c.push.new.self.items at e (sym c.includes.ensures ∙ c.if-includes.true) c.loop-instance.invariant

pub loop-instance-preserved : goal.loop-instance-preserved
loop-instance-preserved c =
    let at = turn c.args.instances.now c.loop-instance.yielded (cc) _ c.loop-instance.yielded_by _ c.in-Some.is c.next.ensures.steps in
    ids_passed c.args.instances.now c.loop-instance.yielded c.in-Some.instance c.loop-instance.storeys.items at (sym c.includes.ensures ∙ c.if-includes.false) c.loop-instance.invariant

pub returns-clause-all : goal.returns-clause-all
returns-clause-all c =
    ids_all c.args.instances.now _ c.loop-instance.storeys.items c.sort.new.self.items
    (spent c.args.instances.now c.loop-instance.yielded (cc) _ c.loop-instance.yielded_by _ c.in-None.is c.next.ensures.steps) c.sort.ensures.permutation c.loop-instance.invariant

pub returns-clause-rises : goal.returns-clause-rises
returns-clause-rises c = IsNonDecreasingBy-from_sort (λ x. x) c.sort.new.self.items c.in_ok-sort.ensures.sorted
