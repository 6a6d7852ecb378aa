use Rattle.std.proofs.Common.{◌≤◌, List, Option, flat_map}
use Rattle.bim_model.specs.declared.limits.TheConstants.{MOST_TRIANGLES}
use Rattle.bim_model.specs.declared.geometry.Point.{Point}
use Rattle.ifc_elements.specs.Items.{items_of, bodies_among}
use Rattle.model_walk.specs.inner.PooledSets.{AreReadSets}
use Rattle.model_walk.specs.inner.Stocked.{AddsPieces}
use Rattle.model_walk.proofs.shape_pieces.add_shape.Given as goal

abbrev pub invariant-loop-value : goal.invariant-loop-value
invariant-loop-value l = record {
  few : l.count ≤ MOST_TRIANGLES;
  added : (points : List (Option (List Point))) → AreReadSets l.exchange l.scale l.mode points l.sets
      → AddsPieces l.exchange l.scale l.mode points l.sets (flat_map (items_of l.exchange) (bodies_among l.exchange l.yielded)) l.initial.out.items l.out.items 0 l.count;
}
