use Rattle.std.proofs.Common.{length, ap, ◌∙◌}
use Rattle.book_history.specs.declared.replies.ReplyBody.TheVariants as reply
use Rattle.book_history.specs.History.{project_numbers}
use Rattle.federation_book.proofs.Finding.{answer_told}
use Rattle.federation_book.proofs.projects.list_projects.Goals as goal

pub returns : goal.returns
returns c =
    answer_told c.args.state.now.entries.items (reply.Projects c.in_ok-numbers.numbers) (reply.Projects (project_numbers (length c.args.state.now.projects.items)))
    (ap reply.Projects (c.in_ok-numbers.ensures ∙ ap project_numbers (c.len.ensures ∙ c.args.state.now.projects.ok.0)))
