-- What is said of a project: its topics, the comments on them, and their viewpoints (BCF API 3.0).
use Rattle.std.specs.Prelude.{ℕ, ◌+◌, ◌≤◌, ◌++◌, [], ◌∷◌, length, All, Option}
use Rattle.std.specs.Map.{keys_of}
use Rattle.bim_model.specs.declared.author.Author.{Author}
use Rattle.bcf_topics.specs.declared.topic_body.TopicBody.{TopicBody}
use Rattle.bcf_topics.specs.declared.topic.Topic.{Topic}
use Rattle.bcf_topics.specs.declared.comment.CommentBody.{CommentBody}
use Rattle.bcf_topics.specs.declared.comment.Comment.{Comment}
use Rattle.bcf_topics.specs.Topics.{topic_of, new_topic, topics_put}
use Rattle.bcf_topics.specs.Comments.{comment_of, comments_with, comments_put, comments_but}
use Rattle.bcf_topics.specs.Discussions.{Discussion, with_topics, with_comments, without_topic}
use Rattle.bcf_viewpoints.specs.declared.view.ViewBody.{ViewBody}
use Rattle.bcf_viewpoints.specs.Viewpoints.{Views, view_of, views_with, views_but, views_off}

-- the topics with their comments, the viewpoints, and how many of the three were made, also those that are gone
pub record BoardState : Type 0 where
  pub discussion : Discussion
  pub views : Views
  pub made : ℕ

-- before anything is said
abbrev pub blank : BoardState
blank = record { discussion = record { topics = []; comments = [] }; views = []; made = 0 }

-- the serial number of what is made next: one more than the number of objects made before
abbrev pub next_serial : BoardState → ℕ
next_serial board = board.made + 1

-- the topic of a number
abbrev pub topic_at : BoardState → ℕ → Option Topic
topic_at board serial = topic_of serial board.discussion.topics

-- the comment of a number on a topic
abbrev pub comment_at : BoardState → ℕ → ℕ → Option Comment
comment_at board topic serial = comment_of topic serial board.discussion.comments

-- what the viewpoint of a number of a topic says
abbrev pub view_at : BoardState → ℕ → ℕ → Option ViewBody
view_at board topic serial = view_of topic serial board.views

-- the same objects, with another discussion
abbrev pub with_discussion : BoardState → Discussion → BoardState
with_discussion board discussion =
    record { discussion = discussion; views = board.views; made = board.made }

-- a topic is made
abbrev pub topic_added : BoardState → TopicBody → Author → BoardState
topic_added board body author =
    let topics = board.discussion.topics ++ new_topic (next_serial board) body author ∷ [] in record {
      discussion = with_topics topics board.discussion;
      views = board.views;
      made = next_serial board;
    }

-- another body takes the place of a topic's
abbrev pub topic_replaced : BoardState → ℕ → TopicBody → Author → BoardState
topic_replaced board serial body author =
    with_discussion board
    (with_topics (topics_put serial body author board.discussion.topics) board.discussion)

-- a topic goes, and its comments and viewpoints with it
abbrev pub topic_removed : BoardState → ℕ → BoardState
topic_removed board serial = record {
  discussion = without_topic serial board.discussion;
  views = views_off serial board.views;
  made = board.made;
}

-- a comment on a topic is made
abbrev pub comment_added : BoardState → ℕ → CommentBody → Author → BoardState
comment_added board topic body author =
    let comments = comments_with topic (next_serial board) body author board.discussion.comments in record {
      discussion = with_comments comments board.discussion;
      views = board.views;
      made = next_serial board;
    }

-- another body takes the place of a comment's
abbrev pub comment_replaced : BoardState → ℕ → ℕ → CommentBody → Author → BoardState
comment_replaced board topic serial body author =
    with_discussion board
    (with_comments (comments_put topic serial body author board.discussion.comments) board.discussion)

-- a comment goes
abbrev pub comment_removed : BoardState → ℕ → ℕ → BoardState
comment_removed board topic serial =
    with_discussion board
    (with_comments (comments_but topic serial board.discussion.comments) board.discussion)

-- a viewpoint of a topic is made
abbrev pub view_added : BoardState → ℕ → ViewBody → BoardState
view_added board topic body = record {
  discussion = board.discussion;
  views = views_with topic (next_serial board) body board.views;
  made = next_serial board;
}

-- a viewpoint goes; a comment that names it keeps its number
abbrev pub view_removed : BoardState → ℕ → ℕ → BoardState
view_removed board topic serial = record {
  discussion = board.discussion;
  views = views_but topic serial board.views;
  made = board.made;
}

-- the numbers are those of objects that were made, and there are no more objects than were made
pub record IsBoard (board : BoardState) : Type 0 where
  pub topics : All (λ (t : Topic). t.serial ≤ board.made) board.discussion.topics
  pub views : All (λ p. p.0 ≤ board.made) (keys_of board.views)
  pub few_topics : length board.discussion.topics ≤ board.made
  pub few_comments : length board.discussion.comments ≤ board.made
  pub few_views : length board.views ≤ board.made
