use Rattle.std.proofs.Common.{◌≡◌, map, take}
use Rattle.serde_json.specs.View.{view}
use Rattle.bcf_bodies.specs.ViewTrees.{whole_tree}
use Rattle.bcf_http.proofs.arrays.views_out.Given as goal

abbrev pub invariant-loop-viewpoint : goal.invariant-loop-viewpoint
invariant-loop-viewpoint l = map view l.trees.items ≡ map (whole_tree l.project) (take l.viewpoint-index l.views)
