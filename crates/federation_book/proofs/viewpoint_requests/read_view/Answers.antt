use Rattle.std.proofs.Common.{length, Some, None, option_map, refl, sym, ap, ◌∙◌}
use Rattle.bcf_viewpoints.specs.Viewpoints.{viewpoint}
use Rattle.book_topics.specs.Boards.{BoardState, view_at}
use Rattle.book_topics.specs.TopicIdentifiers.{topic_named, view_named}
use Rattle.book_history.specs.declared.book_fault.BookFault.TheVariants.{NoProject, NoTopic, NoViewpoint}
use Rattle.book_history.specs.declared.replies.ReplyBody.TheVariants as reply
use Rattle.book_history.specs.History.{board_of}
use Rattle.book_history.specs.Refusals.{project_of}
use Rattle.book_history.specs.Requests.{Answer, in_topic, in_view, view_told}
use Rattle.federation_book.proofs.Finding.{none_told, one_told, answer_told, topic_is, view_is, view_some, view_none}
use Rattle.federation_book.proofs.viewpoint_requests.read_view.Goals as goal

pub returns-in_default : goal.returns-in_default
returns-in_default c =
    let h = c.args.state.now.entries.items in
    let count = length c.args.state.now.projects.items in
    none_told h NoProject (project_of count c.args.project)
    (λ n. in_topic h n c.args.topic (λ t. in_view h n t c.args.view (λ m. Answer (view_told m (view_at (board_of n h) t m))))) (sym c.in_default.ensures.is)

pub returns-in_default-topic_named : goal.returns-in_default-topic_named
returns-in_default-topic_named c =
    let h = c.args.state.now.entries.items in
    let count = length c.args.state.now.projects.items in
    let number = c.in-Some.number in
    let lent = c.board-board.result.now in
    let board = board_of number h in
    one_told h NoProject (project_of count c.args.project) number
    (λ n. in_topic h n c.args.topic (λ t. in_view h n t c.args.view (λ m. Answer (view_told m (view_at (board_of n h) t m))))) (reply.Refused NoTopic) (sym c.in-Some.ensures.is)
    (none_told h NoTopic (topic_named number board c.args.topic)
    (λ t. in_view h number t c.args.view (λ m. Answer (view_told m (view_at board t m)))) (topic_is lent board number c.args.topic None None c.board-board.ensures c.in_default-topic_named.ensures.named refl))

pub returns-in_default-view_named : goal.returns-in_default-view_named
returns-in_default-view_named c =
    let h = c.args.state.now.entries.items in
    let count = length c.args.state.now.projects.items in
    let number = c.in-Some.number in
    let lent = c.board-board.result.now in
    let board = board_of number h in
    one_told h NoProject (project_of count c.args.project) number
    (λ n. in_topic h n c.args.topic (λ t. in_view h n t c.args.view (λ m. Answer (view_told m (view_at (board_of n h) t m))))) (reply.Refused NoViewpoint) (sym c.in-Some.ensures.is)
    (one_told h NoTopic (topic_named number board c.args.topic) c.in-Some-topic_named.topic
    (λ t. in_view h number t c.args.view (λ m. Answer (view_told m (view_at board t m)))) (reply.Refused NoViewpoint) (topic_is lent board number c.args.topic (Some c.in-Some-topic_named.topic) (Some c.in-Some-topic_named.topic) c.board-board.ensures c.in-Some-topic_named.ensures.named refl)
    (none_told h NoViewpoint (view_named number board c.in-Some-topic_named.topic c.args.view)
    (λ m. Answer (view_told m (view_at board c.in-Some-topic_named.topic m))) (view_is lent board number c.in-Some-topic_named.topic c.args.view None None c.board-board.ensures c.in_default-view_named.ensures.named refl)))

pub returns-in-Some-found : goal.returns-in-Some-found
returns-in-Some-found c =
    let h = c.args.state.now.entries.items in
    let count = length c.args.state.now.projects.items in
    let number = c.in-Some.number in
    let lent = c.board-board.result.now in
    let board = board_of number h in
    let topic = c.in-Some-topic_named.topic in
    let serial = c.in-Some-view_named.serial in
    let seen = c.in_ok-found.ensures ∙ ap (λ (b : BoardState). option_map (viewpoint serial) (view_at b topic serial)) c.board-board.ensures in
    one_told h NoProject (project_of count c.args.project) number
    (λ n. in_topic h n c.args.topic (λ t. in_view h n t c.args.view (λ m. Answer (view_told m (view_at (board_of n h) t m))))) (reply.View c.in-Some-found.view) (sym c.in-Some.ensures.is)
    (one_told h NoTopic (topic_named number board c.args.topic) c.in-Some-topic_named.topic
    (λ t. in_view h number t c.args.view (λ m. Answer (view_told m (view_at board t m)))) (reply.View c.in-Some-found.view) (topic_is lent board number c.args.topic (Some c.in-Some-topic_named.topic) (Some c.in-Some-topic_named.topic) c.board-board.ensures c.in-Some-topic_named.ensures.named refl)
    (one_told h NoViewpoint (view_named number board c.in-Some-topic_named.topic c.args.view) c.in-Some-view_named.serial
    (λ m. Answer (view_told m (view_at board c.in-Some-topic_named.topic m))) (reply.View c.in-Some-found.view) (view_is lent board number c.in-Some-topic_named.topic c.args.view (Some c.in-Some-view_named.serial) (Some c.in-Some-view_named.serial) c.board-board.ensures c.in-Some-view_named.ensures.named refl)
    (answer_told h (reply.View c.in-Some-found.view) _ (view_some serial (view_at board topic serial) c.in-Some-found.view (sym c.in-Some-found.is ∙ seen)))))

pub returns-in-None : goal.returns-in-None
returns-in-None c =
    let h = c.args.state.now.entries.items in
    let count = length c.args.state.now.projects.items in
    let number = c.in-Some.number in
    let lent = c.board-board.result.now in
    let board = board_of number h in
    let topic = c.in-Some-topic_named.topic in
    let serial = c.in-Some-view_named.serial in
    let seen = c.in_ok-found.ensures ∙ ap (λ (b : BoardState). option_map (viewpoint serial) (view_at b topic serial)) c.board-board.ensures in
    one_told h NoProject (project_of count c.args.project) number
    (λ n. in_topic h n c.args.topic (λ t. in_view h n t c.args.view (λ m. Answer (view_told m (view_at (board_of n h) t m))))) reply.Gone (sym c.in-Some.ensures.is)
    (one_told h NoTopic (topic_named number board c.args.topic) c.in-Some-topic_named.topic
    (λ t. in_view h number t c.args.view (λ m. Answer (view_told m (view_at board t m)))) reply.Gone (topic_is lent board number c.args.topic (Some c.in-Some-topic_named.topic) (Some c.in-Some-topic_named.topic) c.board-board.ensures c.in-Some-topic_named.ensures.named refl)
    (one_told h NoViewpoint (view_named number board c.in-Some-topic_named.topic c.args.view) c.in-Some-view_named.serial
    (λ m. Answer (view_told m (view_at board c.in-Some-topic_named.topic m))) reply.Gone (view_is lent board number c.in-Some-topic_named.topic c.args.view (Some c.in-Some-view_named.serial) (Some c.in-Some-view_named.serial) c.board-board.ensures c.in-Some-view_named.ensures.named refl)
    (answer_told h reply.Gone _ (view_none serial (view_at board topic serial) (sym c.in-None.is ∙ seen)))))
