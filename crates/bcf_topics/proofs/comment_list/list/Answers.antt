use Rattle.std.proofs.Common.{ap, ◌∙◌}
use Rattle.std.specs.Map.{values_of}
use Rattle.bcf_topics.specs.Comments.{comments_on}
use Rattle.bcf_topics.proofs.Ranges.{of_topic}
use Rattle.bcf_topics.proofs.comment_list.list.Goals as goal

pub loop-comment-init : goal.loop-comment-init
unfolding comments_on
loop-comment-init c =
    rw c.new-list.ensures.items
    (ap values_of
    (c.into_iter-comment-iterator.ensures.into_iter_gives ∙ c.range-comment-items.ensures.between tt
    ∙ of_topic c.args.topic c.args.comments.now.entries))
