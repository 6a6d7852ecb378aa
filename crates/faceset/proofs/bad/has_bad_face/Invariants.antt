use Rattle.std.proofs.Common.{map, All, Any}
use Rattle.faceset.specs.Indexes.{PointsNowhere}
use Rattle.faceset.specs.FaceSets.{all_corners}
use Rattle.p21_values.specs.Attributes.{led_to}
use Rattle.faceset.specs.Reaches.{AreReaches}
use Rattle.faceset.proofs.bad.has_bad_face.Given as goal

abbrev pub invariant-loop-value : goal.invariant-loop-value
invariant-loop-value l = record {
  well : All (λ row. Any (PointsNowhere l.count) row → ⊥) (map all_corners (led_to l.exchange l.yielded));
  kept : AreReaches l.exchange l.reaches;
}
