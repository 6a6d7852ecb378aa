use Rattle.std.proofs.Common.{arith, subst}
use Rattle.serde_json.specs.View.{view}
use Rattle.bcf_topics.specs.declared.topic.Topic.{Topic}
use Rattle.bcf_bodies.specs.TopicTrees.{IsTopicTree}
use Rattle.bcf_http.proofs.GrownTrees.{trees_more, trees_all}
use Rattle.bcf_http.proofs.arrays.topics_out.Goals as goal

pub loop-topic-preserved : goal.loop-topic-preserved
loop-topic-preserved c =
    let l = c.loop-topic in
    let pushed = c.in_ok-push_topic.ensures in
    let stands = subst (λ (t : Topic). IsTopicTree c.args.project t (view pushed.0)) c.get.ensures pushed.1 in
    trees_more (IsTopicTree c.args.project) c.args.topics.now l.topic-index l.trees.items c.push_topic.new.trees.items
    c.loop-topic-test.true c.topic-item.result c.topic-item.is pushed.0 stands pushed.2 l.invariant

pub returns : goal.returns
returns c =
    let l = c.loop-topic in
    trees_all (IsTopicTree c.args.project) c.args.topics.now l.topic-index l.trees (omega arith) l.invariant
