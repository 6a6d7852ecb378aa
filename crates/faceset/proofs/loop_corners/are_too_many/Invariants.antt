use Rattle.std.proofs.Common.{◌≡◌, ◌+◌, ◌≤◌}
use Rattle.faceset.specs.FaceSets.{most_corners}
use Rattle.faceset.specs.inner.Cuts.{corner_total}
use Rattle.faceset.proofs.loop_corners.are_too_many.Given as goal

abbrev pub invariant-loop-row : goal.invariant-loop-row
invariant-loop-row l = (l.count ≡ l.before + corner_total l.yielded) × (l.count ≤ most_corners)
