use Rattle.std.proofs.Common.{Some, sym, ap, ◌∙◌}
use Rattle.bcf_topics.specs.declared.topic.Topic.{Topic}
use Rattle.bcf_topics.proofs.Risen.{found_of}
use Rattle.bcf_topics.proofs.topic_places.find.Goals as goal

pub returns-in-Some : goal.returns-in-Some
returns-in-Some c =
    let p = c.in-Some.ensures in
    let x = c.index-topics-at.result in
    ap (λ (t : Topic). Some t) (c.get.ensures ∙ c.index-topics-at.is)
    ∙ sym (found_of c.args.serial c.args.topics.now c.in-Some.at x c.requires p.within (p.number x))
