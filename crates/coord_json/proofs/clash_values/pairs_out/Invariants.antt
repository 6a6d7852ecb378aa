use Rattle.std.proofs.Common.{◌≡◌, take}
use Rattle.serde_json.specs.View.{items_view}
use Rattle.coord_json.specs.ClashTrees.{pair_items}
use Rattle.coord_json.proofs.clash_values.pairs_out.Given as goal

abbrev pub invariant-loop-pair : goal.invariant-loop-pair
invariant-loop-pair l = items_view l.trees.items ≡ pair_items l.set (take l.pair-index l.pairs)
