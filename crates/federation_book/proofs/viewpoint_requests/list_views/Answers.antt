use Rattle.std.proofs.Common.{length, Some, None, refl, sym, ap, ◌∙◌}
use Rattle.bcf_viewpoints.specs.Viewpoints.{views_on}
use Rattle.book_topics.specs.Boards.{BoardState}
use Rattle.book_topics.specs.TopicIdentifiers.{topic_named}
use Rattle.book_history.specs.declared.book_fault.BookFault.TheVariants.{NoProject, NoTopic}
use Rattle.book_history.specs.declared.replies.ReplyBody.TheVariants as reply
use Rattle.book_history.specs.History.{board_of}
use Rattle.book_history.specs.Refusals.{project_of}
use Rattle.book_history.specs.Requests.{Answer, in_topic}
use Rattle.federation_book.proofs.Finding.{none_told, one_told, answer_told, topic_is}
use Rattle.federation_book.proofs.viewpoint_requests.list_views.Goals as goal

pub returns-in_default : goal.returns-in_default
returns-in_default c =
    let h = c.args.state.now.entries.items in
    let count = length c.args.state.now.projects.items in
    none_told h NoProject (project_of count c.args.project)
    (λ n. in_topic h n c.args.topic (λ t. Answer (reply.ViewList (views_on t (board_of n h).views)))) (sym c.in_default.ensures.is)

pub returns-in_default-topic_named : goal.returns-in_default-topic_named
returns-in_default-topic_named c =
    let h = c.args.state.now.entries.items in
    let count = length c.args.state.now.projects.items in
    let number = c.in-Some.number in
    let lent = c.board-board.result.now in
    let board = board_of number h in
    one_told h NoProject (project_of count c.args.project) number
    (λ n. in_topic h n c.args.topic (λ t. Answer (reply.ViewList (views_on t (board_of n h).views)))) (reply.Refused NoTopic) (sym c.in-Some.ensures.is)
    (none_told h NoTopic (topic_named number board c.args.topic)
    (λ t. Answer (reply.ViewList (views_on t board.views))) (topic_is lent board number c.args.topic None None c.board-board.ensures c.in_default-topic_named.ensures.named refl))

pub returns : goal.returns
returns c =
    let h = c.args.state.now.entries.items in
    let count = length c.args.state.now.projects.items in
    let number = c.in-Some.number in
    let lent = c.board-board.result.now in
    let board = board_of number h in
    one_told h NoProject (project_of count c.args.project) number
    (λ n. in_topic h n c.args.topic (λ t. Answer (reply.ViewList (views_on t (board_of n h).views)))) (reply.ViewList c.in_ok-views.views) (sym c.in-Some.ensures.is)
    (one_told h NoTopic (topic_named number board c.args.topic) c.in-Some-topic_named.topic
    (λ t. Answer (reply.ViewList (views_on t board.views))) (reply.ViewList c.in_ok-views.views) (topic_is lent board number c.args.topic (Some c.in-Some-topic_named.topic) (Some c.in-Some-topic_named.topic) c.board-board.ensures c.in-Some-topic_named.ensures.named refl)
    (answer_told h (reply.ViewList c.in_ok-views.views) _ (ap reply.ViewList (c.in_ok-views.ensures ∙ ap (λ (b : BoardState). views_on c.in-Some-topic_named.topic b.views) c.board-board.ensures))))
