use Rattle.std.proofs.Common.{◌≡◌, ◌++◌, map}
use Rattle.std.specs.Map.{values_of}
use Rattle.bcf_topics.specs.Comments.{comments_on}
use Rattle.bcf_topics.proofs.comment_list.list.Given as goal

abbrev pub invariant-loop-comment : goal.invariant-loop-comment
invariant-loop-comment l = map (λ c. c.now) l.list.items ++ values_of l.comment-iterator ≡ comments_on l.topic l.comments.entries
