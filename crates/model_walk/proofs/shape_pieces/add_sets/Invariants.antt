use Rattle.std.proofs.Common.{◌≤◌, List, Option, Some}
use Rattle.bim_model.specs.declared.limits.TheConstants.{MOST_TRIANGLES}
use Rattle.bim_model.specs.declared.geometry.Point.{Point}
use Rattle.bim_model.specs.declared.upload.Mode.{Mode}
use Rattle.ifc_units.specs.declared.scale.Scale.{Scale}
use Rattle.faceset.specs.FaceSets.{Joined}
use Rattle.p21_values.specs.Attributes.{led_to}
use Rattle.ifc_elements.specs.Sound.{KeptSet}
use Rattle.model_walk.specs.inner.PooledSets.{AreReadSets}
use Rattle.model_walk.specs.inner.SurfacePieces.{AddsShown, Carried}
use Rattle.model_walk.proofs.shape_pieces.add_sets.Given as goal

abbrev pub invariant-loop-value : goal.invariant-loop-value
invariant-loop-value l = record {
  few : l.count ≤ MOST_TRIANGLES;
  added : (scale : Scale) (mode : Mode) (points : List (Option (List Point))) → AreReadSets l.exchange scale mode points l.sets
      → AddsShown points l.sets (Carried (Some l.operator) (Joined (KeptSet l.exchange scale mode) (led_to l.exchange l.yielded))) l.initial.out.items l.out.items l.so_far l.count;
}
