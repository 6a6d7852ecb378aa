use Rattle.std.proofs.Common.{length, sym, ◌∙◌, ap, ap₂}
use Rattle.bim_model.specs.Models.{triangle_count}
use Rattle.bim_model.specs.Snapshots.{Version}
use Rattle.book_history.specs.declared.changes.Change.TheVariants.{Upload}
use Rattle.book_history.specs.Versions.{VersionState}
use Rattle.book_history.specs.Projects.{named_model, with_change}
use Rattle.book_history.specs.History.{state_of}
use Rattle.book_history.specs.Refusals.{full}
use Rattle.book_history.specs.Requests.{Accepted, changed, entry_of}
use Rattle.book_history.proofs.States.{within}
use Rattle.federation_book.specs.KeptProjects.{settings_of}
use Rattle.federation_book.proofs.Advancing.{last_is}
use Rattle.federation_book.proofs.Outcomes.{is_accepted, accepted_reply}
use Rattle.federation_book.proofs.Changing.{upload_next, state_then, told_then, settled_entry}
use Rattle.federation_book.proofs.making.upload.Goals as goal

pub make_version-requires-clause-next : goal.make_version-requires-clause-next
make_version-requires-clause-next c =
    let n = c.in-Some.number in
    let j = c.args.state.now.entries.items in
    let s = state_of n j in
    let last = last_is c.project-project.result.now s c.newest_version-before.result.now c.project-project.ensures (within n j).some c.newest_version-before.ensures in
    let content = c.get.ensures ∙ c.snapshot.ensures ∙ ap (λ (v : VersionState). v.content) last in
    upload_next s c.get.result.now c.in_ok-snapshot.snapshot c.args.name c.args.model (named_model c.in_ok-copy.field-0 c.in_ok-share.field-0) content
    (ap₂ named_model c.in_ok-copy.ensures c.in_ok-share.ensures)
    (ap (λ (v : Version). v.models) c.in_ok-snapshot.ensures ∙ c.in_ok-next.ensures.models)
    (ap (λ (v : Version). v.rules) c.in_ok-snapshot.ensures ∙ c.in_ok-next.ensures.rules)

pub returns-in-None-clause-reply : goal.returns-in-None-clause-reply
returns-in-None-clause-reply c =
    let n = c.in-Some.number in
    let j = c.args.state.now.entries.items in
    let s = state_of n j in
    let settings = settings_of c.args.state.now in
    let change = Upload c.args.name c.args.model in
    let none = sym c.in_ok-fault.ensures.fault ∙ c.in-None.is in
    let entry = settled_entry j c.make_version.new.state.entries.items (entry_of c.args.stamp n change) c.in_ok-fault.field-0 c.in_ok-fault.ensures.added c.in-None.is in
    accepted_reply j c.args.stamp c.args.number n c.in-Some.is (changed settings j change) change c.version_made.result
    (is_accepted (full settings j n change) (Accepted n change) none)
    (told_then (with_change s change) (state_of n c.make_version.new.state.entries.items) c.version_made.result (length c.elements.result.now) c.triangle_count-triangles.result (length c.args.model) (triangle_count c.args.model) c.version_made.ensures
    (state_then c.make_version.new.state.entries.items j (entry_of c.args.stamp n change) entry) (ap length (c.elements.ensures.same ∙ c.get-2.ensures)) (c.triangle_count-triangles.ensures ∙ ap triangle_count c.get-3.ensures))
