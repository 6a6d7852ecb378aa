use Rattle.std.proofs.Common.{◌≡◌, Err, ap₂, ◌∙◌}
use Rattle.bim_model.specs.declared.author.Author.{Author}
use Rattle.bcf_topics.specs.declared.comment.CommentBody.{CommentBody}
use Rattle.bcf_topics.specs.Comments.{new_comment, comments_with}
use Rattle.bcf_topics.specs.Discussions.{with_comments}
use Rattle.bcf_topics.specs.declared.topics.TopicError.TheVariants.{NoTopic, NoComment, Memory}
use Rattle.book_topics.proofs.Boards.{topic_unrefused, answered_memory}
use Rattle.book_topics.proofs.board_comments.add_comment.Goals as goal

pub returns-in-Ok-clause-told : goal.returns-in-Ok-clause-told
returns-in-Ok-clause-told c = ap₂ (new_comment c.args.topic c.args.serial) c.in_ok-bodies.ensures.second c.in_ok-authors.ensures.second

pub returns-in-Ok-clause-ok : goal.returns-in-Ok-clause-ok
returns-in-Ok-clause-ok c =
    let old = c.args.topics.now in
    c.in-Ok.ensures.after
    ∙ ap₂ (λ (body : CommentBody) (author : Author). with_comments (comments_with c.args.topic c.args.serial body author old.comments) old)
    c.in_ok-bodies.ensures.first c.in_ok-authors.ensures.first

pub returns-in-Err-Memory-clause-err : goal.returns-in-Err-Memory-clause-err
returns-in-Err-Memory-clause-err c = c.in-Err-Memory.ensures.after

pub unreachable-requires : goal.unreachable-requires
unreachable-requires c =
    let is : c.post_comment.result ≡ Err NoTopic = cc in
    let memory : NoTopic ≡ Memory = answered_memory _ NoTopic _ c.post_comment.ensures.answer (topic_unrefused c.args.topic c.args.topics.now c.requires) is in
    cc

pub unreachable-requires-in-Err-NoComment : goal.unreachable-requires-in-Err-NoComment
unreachable-requires-in-Err-NoComment c =
    let is : c.post_comment.result ≡ Err NoComment = cc in
    let memory : NoComment ≡ Memory = answered_memory _ NoComment _ c.post_comment.ensures.answer (topic_unrefused c.args.topic c.args.topics.now c.requires) is in
    cc
