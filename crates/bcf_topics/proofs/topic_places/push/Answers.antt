use Rattle.bcf_topics.proofs.Risen.{push_rises}
use Rattle.bcf_topics.proofs.topic_places.push.Goals as goal

pub returns-clause-rises : goal.returns-clause-rises
returns-clause-rises c =
    rw c.in_ok-push.ensures.items (push_rises c.args.topic c.args.topics.now.items c.requires.rises c.requires.last)
