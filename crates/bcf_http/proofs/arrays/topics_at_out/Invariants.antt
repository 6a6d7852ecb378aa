use Rattle.std.proofs.Common.{take}
use Rattle.serde_json.specs.View.{items_view}
use Rattle.bcf_bodies.specs.TopicTrees.{IsTopicTree}
use Rattle.bcf_http.specs.Answers.{AreTrees}
use Rattle.bcf_http.specs.ListRequests.{topics_at}
use Rattle.bcf_http.proofs.arrays.topics_at_out.Given as goal

abbrev pub invariant-loop-place : goal.invariant-loop-place
invariant-loop-place l =
    AreTrees (IsTopicTree l.project) (topics_at l.topics (take l.place-index l.places)) (items_view l.trees.items)
