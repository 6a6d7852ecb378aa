use Rattle.std.proofs.Common.{◌≡◌, map, take}
use Rattle.serde_json.specs.View.{view}
use Rattle.bcf_http.specs.Answers.{project_tree}
use Rattle.bcf_http.proofs.arrays.projects_out.Given as goal

abbrev pub invariant-loop-number : goal.invariant-loop-number
invariant-loop-number l = map view l.trees.items ≡ map project_tree (take l.number-index l.numbers)
