use Rattle.std.proofs.Common.{◌≡◌, ℕ, ◌++◌, length, Option, refl, ◌∙◌, ap}
use Rattle.bim_model.specs.Identifiers.{identifier}
use Rattle.book_turn.specs.Entries.{listed}
use Rattle.book_history.specs.declared.changes.Change.TheVariants as change
use Rattle.book_history.specs.declared.requests.BookRequest.TheVariants as request
use Rattle.book_history.specs.Refusals.{project_of}
use Rattle.book_history.specs.Requests.{in_project, changed, entry_of, entry_by}
use Rattle.book_history.proofs.Again.{brought_by}
use Rattle.federation_book.specs.KeptProjects.{settings_of}
use Rattle.federation_book.proofs.Acting.{number_is, number_there}
use Rattle.federation_book.proofs.applying.bring_rules.Goals as goal

pub set_shared_rules-requires-clause-number : goal.set_shared_rules-requires-clause-number
set_shared_rules-requires-clause-number c =
    number_there c.project_of-number.result c.args.state.now.projects.items c.id_of.result
    (number_is c.project_of-number.result c.len.result c.args.state.now.projects.items c.id_of.result c.project_of-number.ensures (c.len.ensures ∙ c.args.state.now.projects.ok.0))

pub returns-clause-brought : goal.returns-clause-brought
returns-clause-brought c =
    let s = settings_of c.args.state.now in
    let h = c.args.state.now.entries.items in
    let d = change.SetRules c.args.rules c.args.weight in
    let number : c.project_of-number.result ≡ project_of (length c.args.state.now.projects.items) (identifier c.args.project 0) =
    number_is c.project_of-number.result c.len.result c.args.state.now.projects.items c.id_of.result c.project_of-number.ensures (c.len.ensures ∙ c.args.state.now.projects.ok.0)
    ∙ ap (project_of (length c.args.state.now.projects.items)) c.id_of.ensures
    in
    brought_by s h c.set_shared_rules.new.state.entries.items (entry_of c.args.stamp c.args.project d)
    (request.SetRules (identifier c.args.project 0) c.args.rules c.args.weight) refl
    (c.in_ok-body.ensures.added ∙ ap (λ (o : Option ℕ). h ++ listed (entry_by c.args.stamp (in_project o (changed s h d)))) number)
