use Rattle.std.proofs.Common.{sym}
use Rattle.bcf_topics.proofs.Risen.{found_some}
use Rattle.bcf_topics.proofs.topic_places.is_topic.Goals as goal

pub returns-in-Some : goal.returns-in-Some
returns-in-Some c =
    let p = c.in-Some.ensures in
    sym (found_some c.args.serial c.args.topics.now c.in-Some.field-0 c.requires p.within p.number)
