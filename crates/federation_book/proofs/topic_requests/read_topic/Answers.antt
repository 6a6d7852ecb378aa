use Rattle.std.proofs.Common.{length, Some, None, refl, sym, ap, ◌∙◌}
use Rattle.book_topics.specs.Boards.{BoardState, topic_at}
use Rattle.book_topics.specs.TopicIdentifiers.{topic_named}
use Rattle.book_history.specs.declared.book_fault.BookFault.TheVariants.{NoProject, NoTopic}
use Rattle.book_history.specs.declared.replies.ReplyBody.TheVariants as reply
use Rattle.book_history.specs.History.{board_of}
use Rattle.book_history.specs.Refusals.{project_of}
use Rattle.book_history.specs.Requests.{Answer, in_topic, topic_told}
use Rattle.federation_book.proofs.Finding.{none_told, one_told, answer_told, topic_is}
use Rattle.federation_book.proofs.topic_requests.read_topic.Goals as goal

pub returns-in_default : goal.returns-in_default
returns-in_default c =
    let h = c.args.state.now.entries.items in
    let count = length c.args.state.now.projects.items in
    none_told h NoProject (project_of count c.args.project)
    (λ n. in_topic h n c.args.topic (λ t. Answer (topic_told (topic_at (board_of n h) t)))) (sym c.in_default.ensures.is)

pub returns-in_default-topic_named : goal.returns-in_default-topic_named
returns-in_default-topic_named c =
    let h = c.args.state.now.entries.items in
    let count = length c.args.state.now.projects.items in
    let number = c.in-Some.number in
    let lent = c.board-board.result.now in
    let board = board_of number h in
    one_told h NoProject (project_of count c.args.project) number
    (λ n. in_topic h n c.args.topic (λ t. Answer (topic_told (topic_at (board_of n h) t)))) (reply.Refused NoTopic) (sym c.in-Some.ensures.is)
    (none_told h NoTopic (topic_named number board c.args.topic)
    (λ t. Answer (topic_told (topic_at board t))) (topic_is lent board number c.args.topic None None c.board-board.ensures c.in_default-topic_named.ensures.named refl))

pub returns-in_ok-copy-in-Some-topic : goal.returns-in_ok-copy-in-Some-topic
returns-in_ok-copy-in-Some-topic c =
    let h = c.args.state.now.entries.items in
    let count = length c.args.state.now.projects.items in
    let number = c.in-Some.number in
    let lent = c.board-board.result.now in
    let board = board_of number h in
    one_told h NoProject (project_of count c.args.project) number
    (λ n. in_topic h n c.args.topic (λ t. Answer (topic_told (topic_at (board_of n h) t)))) (reply.TopicIs c.in_ok-copy-in-Some-topic.field-0) (sym c.in-Some.ensures.is)
    (one_told h NoTopic (topic_named number board c.args.topic) c.in-Some-topic_named.serial
    (λ t. Answer (topic_told (topic_at board t))) (reply.TopicIs c.in_ok-copy-in-Some-topic.field-0) (topic_is lent board number c.args.topic (Some c.in-Some-topic_named.serial) (Some c.in-Some-topic_named.serial) c.board-board.ensures c.in-Some-topic_named.ensures.named refl)
    (answer_told h (reply.TopicIs c.in_ok-copy-in-Some-topic.field-0) _ (ap reply.TopicIs c.in_ok-copy-in-Some-topic.ensures ∙ ap topic_told (c.in-Some-topic.ensures ∙ ap (λ (b : BoardState). topic_at b c.in-Some-topic_named.serial) c.board-board.ensures))))

pub returns-in-None : goal.returns-in-None
returns-in-None c =
    let h = c.args.state.now.entries.items in
    let count = length c.args.state.now.projects.items in
    let number = c.in-Some.number in
    let lent = c.board-board.result.now in
    let board = board_of number h in
    one_told h NoProject (project_of count c.args.project) number
    (λ n. in_topic h n c.args.topic (λ t. Answer (topic_told (topic_at (board_of n h) t)))) reply.Gone (sym c.in-Some.ensures.is)
    (one_told h NoTopic (topic_named number board c.args.topic) c.in-Some-topic_named.serial
    (λ t. Answer (topic_told (topic_at board t))) reply.Gone (topic_is lent board number c.args.topic (Some c.in-Some-topic_named.serial) (Some c.in-Some-topic_named.serial) c.board-board.ensures c.in-Some-topic_named.ensures.named refl)
    (answer_told h reply.Gone _ (ap topic_told (c.in-None.ensures ∙ ap (λ (b : BoardState). topic_at b c.in-Some-topic_named.serial) c.board-board.ensures))))
