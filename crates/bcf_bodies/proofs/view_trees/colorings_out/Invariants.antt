use Rattle.std.proofs.Common.{◌≡◌, map, take}
use Rattle.serde_json.specs.View.{view}
use Rattle.bcf_bodies.specs.ViewTrees.{coloring_tree}
use Rattle.bcf_bodies.proofs.view_trees.colorings_out.Given as goal

abbrev pub invariant-loop-coloring : goal.invariant-loop-coloring
invariant-loop-coloring l = map view l.trees.items ≡ map coloring_tree (take l.coloring-index l.colorings)
