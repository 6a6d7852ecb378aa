use Rattle.std.proofs.Common.{◌≤◌, List, Option}
use Rattle.bim_model.specs.declared.limits.TheConstants.{MOST_TRIANGLES}
use Rattle.bim_model.specs.declared.geometry.Point.{Point}
use Rattle.p21_values.specs.Attributes.{led_to}
use Rattle.model_walk.specs.inner.PooledSets.{AreReadSets}
use Rattle.model_walk.specs.inner.Stocked.{AddsPieces}
use Rattle.model_walk.proofs.shape_pieces.add_items.Given as goal

abbrev pub invariant-loop-value : goal.invariant-loop-value
invariant-loop-value l = record {
  few : l.count ≤ MOST_TRIANGLES;
  added : (points : List (Option (List Point))) → AreReadSets l.exchange l.scale l.mode points l.sets
      → AddsPieces l.exchange l.scale l.mode points l.sets (led_to l.exchange l.yielded) l.initial.out.items l.out.items l.so_far l.count;
}
