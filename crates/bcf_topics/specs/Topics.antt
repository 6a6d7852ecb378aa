-- The topics of a project, by rising serial number (BCF API 3.0, Topic Services).
use Rattle.std.specs.Prelude.{ℕ, ◌<◌, ◌==◌, List, not, cond, map, filter, AllPairs, Option, Some, None}
use Rattle.std.specs.List.{find}
use Rattle.bim_model.specs.declared.author.Author.{Author}
use Rattle.bcf_topics.specs.declared.topic_body.TopicBody.{TopicBody}
use Rattle.bcf_topics.specs.declared.topic.Topic.{Topic}

-- their numbers rise strictly
unfoldable pub Rises : List Topic → Type 0
Rises topics = AllPairs (λ (t u : Topic). t.serial < u.serial) topics

-- the topic of that number
unfoldable pub topic_of : ℕ → List Topic → Option Topic
topic_of serial topics = find (λ (t : Topic). t.serial == serial) topics

-- a topic that was just made
abbrev pub new_topic : ℕ → TopicBody → Author → Topic
new_topic serial body author = record { serial = serial; body = body; created = author; modified = None }

-- a topic with another body in the place of its own
abbrev pub topic_put : TopicBody → Author → Topic → Topic
topic_put body author topic =
    record { serial = topic.serial; body = body; created = topic.created; modified = Some author }

-- the topics with another body in that of this number
unfoldable pub topics_put : ℕ → TopicBody → Author → List Topic → List Topic
topics_put serial body author topics =
    map (λ (t : Topic). cond (t.serial == serial) (topic_put body author t) t) topics

-- the topics without that of this number
unfoldable pub topics_but : ℕ → List Topic → List Topic
topics_but serial topics = filter (λ (t : Topic). not (t.serial == serial)) topics
