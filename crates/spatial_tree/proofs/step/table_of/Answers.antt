use Rattle.spatial_tree.proofs.Trees.{increasing_rises}
use Rattle.spatial_tree.proofs.step.table_of.Goals as goal

pub steps_of-requires-clause-objects : goal.steps_of-requires-clause-objects
steps_of-requires-clause-objects c = rw c.as_slice.ensures.value (increasing_rises c.in_ok-objects.objects.items c.in_ok-objects.ensures.rises)

pub returns : goal.returns
returns c = record {
  rises = c.in_ok-objects.ensures.rises;
  contents = c.in_ok-objects.ensures.contents;
  parts = c.in_ok-objects.ensures.parts;
  are_steps = rw (← c.as_slice.ensures.value) c.in_ok-steps.ensures;
}
