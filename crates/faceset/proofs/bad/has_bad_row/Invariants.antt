use Rattle.std.proofs.Common.{All, Any}
use Rattle.faceset.specs.Indexes.{PointsNowhere}
use Rattle.p21_values.specs.Attributes.{items_in}
use Rattle.faceset.proofs.bad.has_bad_row.Given as goal

abbrev pub invariant-loop-row : goal.invariant-loop-row
invariant-loop-row l = All (λ v. Any (PointsNowhere l.count) (items_in v) → ⊥) l.yielded
