use Rattle.std.specs.List.Sorted.{IsNonDecreasingBy}
use Rattle.spatial_tree.specs.declared.storey_tree.Placed.{Placed}
use Rattle.spatial_tree.specs.Placing.{ArePlaced}
use Rattle.spatial_tree.proofs.storey_tree.placed_by.Given as goal

abbrev pub invariant-loop-at : goal.invariant-loop-at
invariant-loop-at l = record {
  placed : ArePlaced l.objects l.marks l.at l.placed.items;
  rises : IsNonDecreasingBy (λ (p : Placed). p.object) l.placed.items;
}
