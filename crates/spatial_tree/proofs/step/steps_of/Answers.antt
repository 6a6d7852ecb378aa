use Rattle.std.proofs.Common.{Contains, get_or, sym, subst, ◌+◌}
use Rattle.std.proofs.lemmas.List.{get_or_default}
use Rattle.spatial_tree.specs.inner.UpwardSteps.{NextIn, TornIn, AreFirstStepsOf}
use Rattle.spatial_tree.proofs.Stepping.{steps_push}
use Rattle.spatial_tree.proofs.step.steps_of.Goals as goal

pub loop-object-preserved : goal.loop-object-preserved
loop-object-preserved c =
    let object = get_or c.args.objects.now c.loop-object.object-index 0 in
    subst (λ s. AreFirstStepsOf (NextIn c.args.containers.now c.args.wholes.now) (TornIn c.args.containers.now c.args.wholes.now) (Contains c.args.storeys.now) c.args.objects.now s (c.loop-object.object-index + 1)) (sym c.in_ok-push.ensures.items)
    (steps_push (NextIn c.args.containers.now c.args.wholes.now) (TornIn c.args.containers.now c.args.wholes.now) (Contains c.args.storeys.now) c.args.objects.now c.loop-object.steps.items c.loop-object.object-index object c.step_of.result
    c.loop-object-test.true (get_or_default c.args.objects.now c.loop-object.object-index 0 object c.loop-object-test.true) c.step_of.ensures c.loop-object.invariant)
