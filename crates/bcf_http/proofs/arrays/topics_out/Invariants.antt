use Rattle.std.proofs.Common.{take}
use Rattle.serde_json.specs.View.{items_view}
use Rattle.bcf_bodies.specs.TopicTrees.{IsTopicTree}
use Rattle.bcf_http.specs.Answers.{AreTrees}
use Rattle.bcf_http.proofs.arrays.topics_out.Given as goal

abbrev pub invariant-loop-topic : goal.invariant-loop-topic
invariant-loop-topic l = AreTrees (IsTopicTree l.project) (take l.topic-index l.topics) (items_view l.trees.items)
