use Rattle.std.proofs.Common.{All}
use Rattle.faceset.specs.Indexes.{PointsNowhere}
use Rattle.faceset.proofs.bad.has_bad_item.Given as goal

abbrev pub invariant-loop-value : goal.invariant-loop-value
invariant-loop-value l = All (λ v. PointsNowhere l.count v → ⊥) l.yielded
