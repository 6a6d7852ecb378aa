use Rattle.std.proofs.Common.{length, sym, ap, ◌∙◌}
use Rattle.book_topics.specs.Boards.{BoardState}
use Rattle.book_history.specs.declared.book_fault.BookFault.TheVariants.{NoProject}
use Rattle.book_history.specs.declared.replies.ReplyBody.TheVariants as reply
use Rattle.book_history.specs.History.{board_of}
use Rattle.book_history.specs.Refusals.{project_of}
use Rattle.book_history.specs.Requests.{Answer}
use Rattle.federation_book.proofs.Finding.{none_told, one_told, answer_told}
use Rattle.federation_book.proofs.topic_requests.list_topics.Goals as goal

pub returns-in_default : goal.returns-in_default
returns-in_default c =
    let h = c.args.state.now.entries.items in
    let count = length c.args.state.now.projects.items in
    none_told h NoProject (project_of count c.args.project)
    (λ n. Answer (reply.TopicList (board_of n h).discussion.topics)) (sym c.in_default.ensures.is)

pub returns : goal.returns
returns c =
    let h = c.args.state.now.entries.items in
    let count = length c.args.state.now.projects.items in
    let number = c.in-Some.number in
    one_told h NoProject (project_of count c.args.project) number
    (λ n. Answer (reply.TopicList (board_of n h).discussion.topics)) (reply.TopicList c.in_ok-topics.topics) (sym c.in-Some.ensures.is)
    (answer_told h (reply.TopicList c.in_ok-topics.topics) _ (ap reply.TopicList (c.in_ok-topics.ensures ∙ ap (λ (b : BoardState). b.discussion.topics) c.board-board.ensures)))
