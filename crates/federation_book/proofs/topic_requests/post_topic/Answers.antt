use Rattle.std.proofs.Common.{length, sym}
use Rattle.book_history.specs.declared.changes.Change.TheVariants as change
use Rattle.book_history.specs.declared.book_fault.BookFault.TheVariants.{NoProject}
use Rattle.book_history.specs.Refusals.{project_of}
use Rattle.book_history.specs.Requests.{noted}
use Rattle.federation_book.specs.KeptProjects.{settings_of}
use Rattle.federation_book.proofs.Finding.{none_done, some_done}
use Rattle.federation_book.proofs.topic_requests.post_topic.Goals as goal

pub returns-in_default-clause-done : goal.returns-in_default-clause-done
returns-in_default-clause-done c =
    let h = c.args.state.now.entries.items in
    let settings = settings_of c.args.state.now in
    let count = length c.args.state.now.projects.items in
    none_done h c.args.stamp NoProject (project_of count c.args.project)
    (λ n. noted settings h n (change.PostTopic c.args.body c.args.author c.args.weight)) (sym c.in_default.ensures.is)

pub returns-clause-done : goal.returns-clause-done
returns-clause-done c =
    let h = c.args.state.now.entries.items in
    let settings = settings_of c.args.state.now in
    let count = length c.args.state.now.projects.items in
    let number = c.in-Some.number in
    some_done c.note.result h c.note.new.state.entries.items c.args.stamp NoProject (project_of count c.args.project) number
    (λ n. noted settings h n (change.PostTopic c.args.body c.args.author c.args.weight)) (sym c.in-Some.ensures.is)
    (c.note.ensures.done)
