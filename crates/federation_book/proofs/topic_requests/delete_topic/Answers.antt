use Rattle.std.proofs.Common.{length, Some, None, IsSome, refl, sym, subst}
use Rattle.book_topics.specs.Boards.{BoardState, topic_at}
use Rattle.book_topics.specs.TopicIdentifiers.{topic_named}
use Rattle.book_history.specs.declared.changes.Change.TheVariants as change
use Rattle.book_history.specs.declared.book_fault.BookFault.TheVariants.{NoProject, NoTopic}
use Rattle.book_history.specs.declared.replies.ReplyBody.TheVariants as reply
use Rattle.book_history.specs.History.{board_of}
use Rattle.book_history.specs.Refusals.{project_of}
use Rattle.book_history.specs.Requests.{noted, in_topic}
use Rattle.federation_book.specs.KeptProjects.{settings_of}
use Rattle.federation_book.proofs.Finding.{none_done, one_done, some_done, topic_is}
use Rattle.federation_book.proofs.topic_requests.delete_topic.Goals as goal

pub returns-in_default-clause-done : goal.returns-in_default-clause-done
returns-in_default-clause-done c =
    let h = c.args.state.now.entries.items in
    let settings = settings_of c.args.state.now in
    let count = length c.args.state.now.projects.items in
    none_done h c.args.stamp NoProject (project_of count c.args.project)
    (λ n. in_topic h n c.args.topic (λ t. noted settings h n (change.DeleteTopic t))) (sym c.in_default.ensures.is)

pub returns-in_default-topic_named-clause-done : goal.returns-in_default-topic_named-clause-done
returns-in_default-topic_named-clause-done c =
    let h = c.args.state.now.entries.items in
    let settings = settings_of c.args.state.now in
    let count = length c.args.state.now.projects.items in
    let number = c.in-Some.number in
    let lent = c.board-board.result.now in
    let board = board_of number h in
    one_done h h c.args.stamp NoProject (project_of count c.args.project) number
    (λ n. in_topic h n c.args.topic (λ t. noted settings h n (change.DeleteTopic t))) (reply.Refused NoTopic) (sym c.in-Some.ensures.is)
    (none_done h c.args.stamp NoTopic (topic_named number board c.args.topic)
    (λ t. noted settings h number (change.DeleteTopic t)) (topic_is lent board number c.args.topic None None c.board-board.ensures c.in_default-topic_named.ensures.named refl))

pub returns-clause-done : goal.returns-clause-done
returns-clause-done c =
    let h = c.args.state.now.entries.items in
    let settings = settings_of c.args.state.now in
    let count = length c.args.state.now.projects.items in
    let number = c.in-Some.number in
    let lent = c.board-board.result.now in
    let board = board_of number h in
    some_done c.note.result h c.note.new.state.entries.items c.args.stamp NoProject (project_of count c.args.project) number
    (λ n. in_topic h n c.args.topic (λ t. noted settings h n (change.DeleteTopic t))) (sym c.in-Some.ensures.is)
    (some_done c.note.result h c.note.new.state.entries.items c.args.stamp NoTopic (topic_named number board c.args.topic) c.in-Some-topic_named.topic
    (λ t. noted settings h number (change.DeleteTopic t)) (topic_is lent board number c.args.topic (Some c.in-Some-topic_named.topic) (Some c.in-Some-topic_named.topic) c.board-board.ensures c.in-Some-topic_named.ensures.named refl)
    (c.note.ensures.done))

pub note-requires-clause-fits : goal.note-requires-clause-fits
note-requires-clause-fits c =
    subst (λ (b : BoardState). IsSome (topic_at b c.in-Some-topic_named.topic)) c.board-board.ensures c.in-Some-topic_named.ensures.there
