use Rattle.std.proofs.Common.{length, sym, refl}
use Rattle.book_history.specs.declared.book_fault.BookFault.TheVariants.{NoProject}
use Rattle.book_history.specs.declared.replies.ReplyBody.TheVariants as reply
use Rattle.book_history.specs.Refusals.{project_of}
use Rattle.book_history.specs.Requests.{Answer}
use Rattle.federation_book.proofs.Finding.{none_told, one_told, answer_told}
use Rattle.federation_book.proofs.projects.read_project.Goals as goal

pub returns-in-Some : goal.returns-in-Some
returns-in-Some c =
    let h = c.args.state.now.entries.items in
    one_told h NoProject (project_of (length c.args.state.now.projects.items) c.args.project) c.in-Some.number (λ n. Answer (reply.Project n)) (reply.Project c.in-Some.number) (sym c.in-Some.ensures.is)
    (answer_told h (reply.Project c.in-Some.number) (reply.Project c.in-Some.number) refl)

pub returns-in-None : goal.returns-in-None
returns-in-None c =
    none_told c.args.state.now.entries.items NoProject (project_of (length c.args.state.now.projects.items) c.args.project) (λ n. Answer (reply.Project n)) (sym c.in-None.ensures.is)
