-- The topics of a project with their comments, and why a call is refused.
use Rattle.std.specs.Prelude.{◌≡◌, ℕ, ◌<◌, List, length, get_or, cond}
use Rattle.std.specs.Prelude.{Option, Some, None, is_some, Result, Ok, Err}
use Rattle.bcf_topics.specs.declared.topic.Topic.{Topic}
use Rattle.bcf_topics.specs.declared.topics.TopicError.{TopicError}
use Rattle.bcf_topics.specs.declared.topics.TopicError.TheVariants.{NoTopic, NoComment, Memory}
use Rattle.bcf_topics.specs.Topics.{topic_of, topics_but}
use Rattle.bcf_topics.specs.Comments.{Comments, comment_of, comments_off}

-- the topics of a project and the comments on them
pub record Discussion : Type 0 where
  pub topics : List Topic
  pub comments : Comments

-- the topic of that number stands there
pub record IsPlaceOf (topics : List Topic) (serial at : ℕ) : Type 0 where
  pub within : at < length topics
  pub number : (d : Topic) → (get_or topics at d).serial ≡ serial

-- a discussion with other topics
abbrev pub with_topics : List Topic → Discussion → Discussion
with_topics topics d = record { topics = topics; comments = d.comments }

-- a discussion with other comments
abbrev pub with_comments : Comments → Discussion → Discussion
with_comments comments d = record { topics = d.topics; comments = comments }

-- without a topic and its comments
abbrev pub without_topic : ℕ → Discussion → Discussion
without_topic serial d = record {
  topics = topics_but serial d.topics;
  comments = comments_off serial d.comments;
}

-- what refuses a call that is about a topic
abbrev pub topic_refusal : ℕ → Discussion → Option TopicError
topic_refusal topic d = cond (is_some (topic_of topic d.topics)) None (Some NoTopic)

-- what refuses a call that is about a comment: first the topic must be there
abbrev pub comment_refusal : ℕ → ℕ → Discussion → Option TopicError
comment_refusal topic serial d =
    cond (is_some (topic_of topic d.topics))
    (cond (is_some (comment_of topic serial d.comments)) None (Some NoComment))
    (Some NoTopic)

-- the answer where that refuses
abbrev pub answer_of : Option TopicError → Result (Unit {0}) TopicError
answer_of None = Ok tt
answer_of (Some error) = Err error

-- the answer is the refusal; where none refuses, out of memory may
abbrev pub IsAnswer : Result (Unit {0}) TopicError → Option TopicError → Type 0
IsAnswer (Ok done) refusal = refusal ≡ None
IsAnswer (Err Memory) refusal = refusal ≡ None
IsAnswer (Err error) refusal = refusal ≡ Some error
