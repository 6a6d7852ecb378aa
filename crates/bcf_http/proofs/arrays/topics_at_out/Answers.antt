use Rattle.std.proofs.Common.{arith}
use Rattle.bcf_bodies.specs.TopicTrees.{IsTopicTree}
use Rattle.bcf_http.proofs.GrownTrees.{picked_more, picked_all}
use Rattle.bcf_http.proofs.arrays.topics_at_out.Goals as goal

pub loop-place-preserved : goal.loop-place-preserved
loop-place-preserved c =
    let l = c.loop-place in
    picked_more (IsTopicTree c.args.project) c.args.topics.now c.args.places.now l.place-index l.trees.items c.push_topic_at.new.trees.items
    c.loop-place-test.true c.in_ok-push_topic_at.ensures l.invariant

pub returns : goal.returns
returns c =
    let l = c.loop-place in
    picked_all (IsTopicTree c.args.project) c.args.topics.now c.args.places.now l.place-index l.trees (omega arith) l.invariant
