use Rattle.std.proofs.Common.{Contains}
use Rattle.spatial_tree.specs.inner.UpwardSteps.{NextIn, TornIn, AreFirstStepsOf}
use Rattle.spatial_tree.proofs.step.steps_of.Given as goal

abbrev pub invariant-loop-object : goal.invariant-loop-object
invariant-loop-object l = AreFirstStepsOf (NextIn l.containers l.wholes) (TornIn l.containers l.wholes) (Contains l.storeys) l.objects l.steps.items l.object-index
