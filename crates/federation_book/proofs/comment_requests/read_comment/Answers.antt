use Rattle.std.proofs.Common.{length, Some, None, refl, sym, ap, ◌∙◌}
use Rattle.book_topics.specs.Boards.{BoardState, comment_at}
use Rattle.book_topics.specs.TopicIdentifiers.{topic_named, comment_named}
use Rattle.book_history.specs.declared.book_fault.BookFault.TheVariants.{NoProject, NoTopic, NoComment}
use Rattle.book_history.specs.declared.replies.ReplyBody.TheVariants as reply
use Rattle.book_history.specs.History.{board_of}
use Rattle.book_history.specs.Refusals.{project_of}
use Rattle.book_history.specs.Requests.{Answer, in_topic, in_comment, comment_told}
use Rattle.federation_book.proofs.Finding.{none_told, one_told, answer_told, topic_is, comment_is}
use Rattle.federation_book.proofs.comment_requests.read_comment.Goals as goal

pub returns-in_default : goal.returns-in_default
returns-in_default c =
    let h = c.args.state.now.entries.items in
    let count = length c.args.state.now.projects.items in
    none_told h NoProject (project_of count c.args.project)
    (λ n. in_topic h n c.args.topic (λ t. in_comment h n t c.args.comment (λ m. Answer (comment_told (comment_at (board_of n h) t m))))) (sym c.in_default.ensures.is)

pub returns-in_default-topic_named : goal.returns-in_default-topic_named
returns-in_default-topic_named c =
    let h = c.args.state.now.entries.items in
    let count = length c.args.state.now.projects.items in
    let number = c.in-Some.number in
    let lent = c.board-board.result.now in
    let board = board_of number h in
    one_told h NoProject (project_of count c.args.project) number
    (λ n. in_topic h n c.args.topic (λ t. in_comment h n t c.args.comment (λ m. Answer (comment_told (comment_at (board_of n h) t m))))) (reply.Refused NoTopic) (sym c.in-Some.ensures.is)
    (none_told h NoTopic (topic_named number board c.args.topic)
    (λ t. in_comment h number t c.args.comment (λ m. Answer (comment_told (comment_at board t m)))) (topic_is lent board number c.args.topic None None c.board-board.ensures c.in_default-topic_named.ensures.named refl))

pub returns-in_default-comment_named : goal.returns-in_default-comment_named
returns-in_default-comment_named c =
    let h = c.args.state.now.entries.items in
    let count = length c.args.state.now.projects.items in
    let number = c.in-Some.number in
    let lent = c.board-board.result.now in
    let board = board_of number h in
    one_told h NoProject (project_of count c.args.project) number
    (λ n. in_topic h n c.args.topic (λ t. in_comment h n t c.args.comment (λ m. Answer (comment_told (comment_at (board_of n h) t m))))) (reply.Refused NoComment) (sym c.in-Some.ensures.is)
    (one_told h NoTopic (topic_named number board c.args.topic) c.in-Some-topic_named.topic
    (λ t. in_comment h number t c.args.comment (λ m. Answer (comment_told (comment_at board t m)))) (reply.Refused NoComment) (topic_is lent board number c.args.topic (Some c.in-Some-topic_named.topic) (Some c.in-Some-topic_named.topic) c.board-board.ensures c.in-Some-topic_named.ensures.named refl)
    (none_told h NoComment (comment_named number board c.in-Some-topic_named.topic c.args.comment)
    (λ m. Answer (comment_told (comment_at board c.in-Some-topic_named.topic m))) (comment_is lent board number c.in-Some-topic_named.topic c.args.comment None None c.board-board.ensures c.in_default-comment_named.ensures.named refl)))

pub returns-in_ok-copy-in-Some-comment : goal.returns-in_ok-copy-in-Some-comment
returns-in_ok-copy-in-Some-comment c =
    let h = c.args.state.now.entries.items in
    let count = length c.args.state.now.projects.items in
    let number = c.in-Some.number in
    let lent = c.board-board.result.now in
    let board = board_of number h in
    one_told h NoProject (project_of count c.args.project) number
    (λ n. in_topic h n c.args.topic (λ t. in_comment h n t c.args.comment (λ m. Answer (comment_told (comment_at (board_of n h) t m))))) (reply.CommentIs c.in_ok-copy-in-Some-comment.field-0) (sym c.in-Some.ensures.is)
    (one_told h NoTopic (topic_named number board c.args.topic) c.in-Some-topic_named.topic
    (λ t. in_comment h number t c.args.comment (λ m. Answer (comment_told (comment_at board t m)))) (reply.CommentIs c.in_ok-copy-in-Some-comment.field-0) (topic_is lent board number c.args.topic (Some c.in-Some-topic_named.topic) (Some c.in-Some-topic_named.topic) c.board-board.ensures c.in-Some-topic_named.ensures.named refl)
    (one_told h NoComment (comment_named number board c.in-Some-topic_named.topic c.args.comment) c.in-Some-comment_named.serial
    (λ m. Answer (comment_told (comment_at board c.in-Some-topic_named.topic m))) (reply.CommentIs c.in_ok-copy-in-Some-comment.field-0) (comment_is lent board number c.in-Some-topic_named.topic c.args.comment (Some c.in-Some-comment_named.serial) (Some c.in-Some-comment_named.serial) c.board-board.ensures c.in-Some-comment_named.ensures.named refl)
    (answer_told h (reply.CommentIs c.in_ok-copy-in-Some-comment.field-0) _ (ap reply.CommentIs c.in_ok-copy-in-Some-comment.ensures ∙ ap comment_told (c.in-Some-comment.ensures ∙ ap (λ (b : BoardState). comment_at b c.in-Some-topic_named.topic c.in-Some-comment_named.serial) c.board-board.ensures)))))

pub returns-in-None : goal.returns-in-None
returns-in-None c =
    let h = c.args.state.now.entries.items in
    let count = length c.args.state.now.projects.items in
    let number = c.in-Some.number in
    let lent = c.board-board.result.now in
    let board = board_of number h in
    one_told h NoProject (project_of count c.args.project) number
    (λ n. in_topic h n c.args.topic (λ t. in_comment h n t c.args.comment (λ m. Answer (comment_told (comment_at (board_of n h) t m))))) reply.Gone (sym c.in-Some.ensures.is)
    (one_told h NoTopic (topic_named number board c.args.topic) c.in-Some-topic_named.topic
    (λ t. in_comment h number t c.args.comment (λ m. Answer (comment_told (comment_at board t m)))) reply.Gone (topic_is lent board number c.args.topic (Some c.in-Some-topic_named.topic) (Some c.in-Some-topic_named.topic) c.board-board.ensures c.in-Some-topic_named.ensures.named refl)
    (one_told h NoComment (comment_named number board c.in-Some-topic_named.topic c.args.comment) c.in-Some-comment_named.serial
    (λ m. Answer (comment_told (comment_at board c.in-Some-topic_named.topic m))) reply.Gone (comment_is lent board number c.in-Some-topic_named.topic c.args.comment (Some c.in-Some-comment_named.serial) (Some c.in-Some-comment_named.serial) c.board-board.ensures c.in-Some-comment_named.ensures.named refl)
    (answer_told h reply.Gone _ (ap comment_told (c.in-None.ensures ∙ ap (λ (b : BoardState). comment_at b c.in-Some-topic_named.topic c.in-Some-comment_named.serial) c.board-board.ensures)))))
