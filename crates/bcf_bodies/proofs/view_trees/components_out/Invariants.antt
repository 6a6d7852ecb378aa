use Rattle.std.proofs.Common.{◌≡◌, map, take}
use Rattle.serde_json.specs.View.{view}
use Rattle.bcf_bodies.specs.ViewTrees.{component_tree}
use Rattle.bcf_bodies.proofs.view_trees.components_out.Given as goal

abbrev pub invariant-loop-component : goal.invariant-loop-component
invariant-loop-component l = map view l.trees.items ≡ map component_tree (take l.component-index l.components)
