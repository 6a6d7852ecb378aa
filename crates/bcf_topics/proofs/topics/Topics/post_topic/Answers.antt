use Rattle.std.proofs.Common.{◌≡◌, ◌<◌, All, List, sym, ap, subst, slice_index_or}
use Rattle.bcf_topics.specs.declared.topic.Topic.{Topic}
use Rattle.bcf_topics.specs.Discussions.{Discussion}
use Rattle.bcf_topics.proofs.topics.Topics.post_topic.Goals as goal

pub push-requires-clause-last : goal.push-requires-clause-last
push-requires-clause-last c k d lt =
    let same : c.self.inside.topics.items ≡ c.args.self.now.topics = ap (λ (x : Discussion). x.topics) c.self.view_is in
    let last = subst (λ (ts : List Topic). All (λ (t : Topic). t.serial < c.args.serial) ts) (sym same) c.requires in
    subst (λ (t : Topic). (slice_index_or c.self.inside.topics.items k d).serial < t.serial) (sym c.in_ok-topic.ensures) (last k d lt)
