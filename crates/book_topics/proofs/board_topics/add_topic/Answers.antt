use Rattle.std.proofs.Common.{◌++◌, ◌∷◌, [], ap₂, ◌∙◌}
use Rattle.bim_model.specs.declared.author.Author.{Author}
use Rattle.bcf_topics.specs.declared.topic_body.TopicBody.{TopicBody}
use Rattle.bcf_topics.specs.Topics.{new_topic}
use Rattle.bcf_topics.specs.Discussions.{with_topics}
use Rattle.book_topics.proofs.board_topics.add_topic.Goals as goal

pub returns-clause-told : goal.returns-clause-told
returns-clause-told c = ap₂ (new_topic c.args.serial) c.in_ok-bodies.ensures.second c.in_ok-authors.ensures.second

pub returns-clause-ok : goal.returns-clause-ok
returns-clause-ok c =
    let old = c.args.topics.now in
    c.in_ok-post_topic.ensures.ok
    ∙ ap₂ (λ (body : TopicBody) (author : Author). with_topics (old.topics ++ new_topic c.args.serial body author ∷ []) old)
    c.in_ok-bodies.ensures.first c.in_ok-authors.ensures.first
