use Rattle.std.proofs.Common.{◌≡◌, ◌≢◌, ℕ, ◌<◌, []}
use Rattle.spatial_tree.specs.declared.mark.Mark.TheVariants.{Unseen}
use Rattle.spatial_tree.specs.inner.StoreyMarks.{AreRight, AreIdle, mark_at}
use Rattle.spatial_tree.proofs.mark.survey.Given as goal

abbrev pub invariant-loop-start : goal.invariant-loop-start
invariant-loop-start l = record {
  right : AreRight l.steps l.marks.items;
  idle : AreIdle l.marks.items;
  empty : l.way.items ≡ [];
  seen : (k : ℕ) → k < l.start → mark_at l.marks.items k ≢ Unseen;
}
