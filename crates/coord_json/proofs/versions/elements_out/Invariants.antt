use Rattle.std.proofs.Common.{take}
use Rattle.serde_json.specs.View.{items_view}
use Rattle.coord_json.specs.VersionTrees.{AreElementTrees}
use Rattle.coord_json.proofs.versions.elements_out.Given as goal

abbrev pub invariant-loop-element : goal.invariant-loop-element
invariant-loop-element l = AreElementTrees (take l.element-index l.elements) (items_view l.trees.items)
