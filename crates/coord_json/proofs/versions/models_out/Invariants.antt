use Rattle.std.proofs.Common.{take}
use Rattle.serde_json.specs.View.{items_view}
use Rattle.coord_json.specs.VersionTrees.{AreModelTrees}
use Rattle.coord_json.proofs.versions.models_out.Given as goal

abbrev pub invariant-loop-model : goal.invariant-loop-model
invariant-loop-model l = AreModelTrees (take l.model-index l.models) (items_view l.trees.items)
