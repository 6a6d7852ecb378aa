use Rattle.std.proofs.Common.{◌∷◌, sym, refl, ◌∙◌, ap}
use Rattle.bim_model.specs.Snapshots.{Version, without_model}
use Rattle.book_history.specs.declared.changes.Change.TheVariants.{Remove}
use Rattle.book_history.specs.declared.book_fault.BookFault.TheVariants.{NoModel}
use Rattle.book_history.specs.Versions.{VersionState}
use Rattle.book_history.specs.Projects.{with_change}
use Rattle.book_history.specs.History.{state_of}
use Rattle.book_history.specs.Refusals.{first_of, full, no_model}
use Rattle.book_history.specs.Requests.{Accepted, removed, entry_of}
use Rattle.book_history.proofs.States.{within}
use Rattle.federation_book.specs.KeptProjects.{settings_of}
use Rattle.federation_book.proofs.Advancing.{last_is}
use Rattle.federation_book.proofs.Outcomes.{is_refused, is_accepted, refused_reply, refused_adds, accepted_reply}
use Rattle.federation_book.proofs.Changing.{remove_next, state_then, whole_then, settled_adds, settled_entry, behind_none, has_none, has_one}
use Rattle.federation_book.proofs.making.remove.Goals as goal

pub returns-then-not-has_model-clause-reply : goal.returns-then-not-has_model-clause-reply
returns-then-not-has_model-clause-reply c =
    let n = c.in-Some.number in
    let j = c.args.state.now.entries.items in
    let s = state_of n j in
    let settings = settings_of c.args.state.now in
    let name = c.args.name in
    let change = Remove name in
    let last = last_is c.project-project.result.now s c.newest_version-before.result.now c.project-project.ensures (within n j).some c.newest_version-before.ensures in
    let models = c.models.ensures.same ∙ ap (λ (v : Version). v.models) (c.get.ensures ∙ c.snapshot.ensures) ∙ ap (λ (v : VersionState). v.content.models) last in
    let none = has_none s c.models.result.now name c.as_str.result.now c.has_model.result c.has_model.ensures models c.as_str.ensures c.if-not-has_model.true in
    let rest = full settings j n change in
    refused_reply j c.args.stamp c.args.number n c.in-Some.is (removed settings j name) NoModel
    (is_refused (no_model s name ∷ rest) (Accepted n change) NoModel (ap (λ o. first_of (o ∷ rest)) none))

pub returns-then-not-has_model-clause-added : goal.returns-then-not-has_model-clause-added
returns-then-not-has_model-clause-added c =
    let n = c.in-Some.number in
    let j = c.args.state.now.entries.items in
    let s = state_of n j in
    let settings = settings_of c.args.state.now in
    let name = c.args.name in
    let change = Remove name in
    let last = last_is c.project-project.result.now s c.newest_version-before.result.now c.project-project.ensures (within n j).some c.newest_version-before.ensures in
    let models = c.models.ensures.same ∙ ap (λ (v : Version). v.models) (c.get.ensures ∙ c.snapshot.ensures) ∙ ap (λ (v : VersionState). v.content.models) last in
    let none = has_none s c.models.result.now name c.as_str.result.now c.has_model.result c.has_model.ensures models c.as_str.ensures c.if-not-has_model.true in
    let rest = full settings j n change in
    refused_adds j c.args.stamp c.args.number n c.in-Some.is (removed settings j name) NoModel
    (is_refused (no_model s name ∷ rest) (Accepted n change) NoModel (ap (λ o. first_of (o ∷ rest)) none))

pub make_version-requires-clause-next : goal.make_version-requires-clause-next
make_version-requires-clause-next c =
    let n = c.in-Some.number in
    let j = c.args.state.now.entries.items in
    let s = state_of n j in
    let last = last_is c.project-project.result.now s c.newest_version-before.result.now c.project-project.ensures (within n j).some c.newest_version-before.ensures in
    let content = c.get-2.ensures ∙ c.snapshot-2.ensures ∙ ap (λ (v : VersionState). v.content) last in
    remove_next s c.get-2.result.now c.in_ok-snapshot.snapshot c.args.name content
    (ap (λ (v : Version). v.models) c.in_ok-snapshot.ensures ∙ c.in_ok-next.ensures.models ∙ ap (λ t. without_model t c.get-2.result.now.models) c.as_str-2.ensures)
    (ap (λ (v : Version). v.rules) c.in_ok-snapshot.ensures ∙ c.in_ok-next.ensures.rules)

pub returns-in-Some-2-clause-reply : goal.returns-in-Some-2-clause-reply
returns-in-Some-2-clause-reply c =
    let n = c.in-Some.number in
    let j = c.args.state.now.entries.items in
    let s = state_of n j in
    let settings = settings_of c.args.state.now in
    let name = c.args.name in
    let change = Remove name in
    let last = last_is c.project-project.result.now s c.newest_version-before.result.now c.project-project.ensures (within n j).some c.newest_version-before.ensures in
    let models = c.models.ensures.same ∙ ap (λ (v : Version). v.models) (c.get.ensures ∙ c.snapshot.ensures) ∙ ap (λ (v : VersionState). v.content.models) last in
    let one = has_one s c.models.result.now name c.as_str.result.now c.has_model.result c.has_model.ensures models c.as_str.ensures c.if-not-has_model.false in
    let rest = full settings j n change in
    let behind = behind_none (no_model s name) rest one in
    let refusals = no_model s name ∷ rest in
    refused_reply j c.args.stamp c.args.number n c.in-Some.is (removed settings j name) c.in-Some-2.fault
    (is_refused refusals (Accepted n change) c.in-Some-2.fault (behind ∙ sym c.in_ok-fault.ensures.fault ∙ c.in-Some-2.is))

pub returns-in-None-clause-reply : goal.returns-in-None-clause-reply
returns-in-None-clause-reply c =
    let n = c.in-Some.number in
    let j = c.args.state.now.entries.items in
    let s = state_of n j in
    let settings = settings_of c.args.state.now in
    let name = c.args.name in
    let change = Remove name in
    let last = last_is c.project-project.result.now s c.newest_version-before.result.now c.project-project.ensures (within n j).some c.newest_version-before.ensures in
    let models = c.models.ensures.same ∙ ap (λ (v : Version). v.models) (c.get.ensures ∙ c.snapshot.ensures) ∙ ap (λ (v : VersionState). v.content.models) last in
    let one = has_one s c.models.result.now name c.as_str.result.now c.has_model.result c.has_model.ensures models c.as_str.ensures c.if-not-has_model.false in
    let rest = full settings j n change in
    let behind = behind_none (no_model s name) rest one in
    let refusals = no_model s name ∷ rest in
    let k = c.make_version.new.state.entries.items in
    let entry = settled_entry j k (entry_of c.args.stamp n change) c.in_ok-fault.field-0 c.in_ok-fault.ensures.added c.in-None.is in
    accepted_reply j c.args.stamp c.args.number n c.in-Some.is (removed settings j name) change c.whole_version_made.result
    (is_accepted refusals (Accepted n change) (behind ∙ sym c.in_ok-fault.ensures.fault ∙ c.in-None.is))
    (whole_then (with_change s change) (state_of n k) c.whole_version_made.result c.whole_version_made.ensures (state_then k j (entry_of c.args.stamp n change) entry))

pub returns-in-None-clause-added : goal.returns-in-None-clause-added
returns-in-None-clause-added c =
    let n = c.in-Some.number in
    let j = c.args.state.now.entries.items in
    let s = state_of n j in
    let settings = settings_of c.args.state.now in
    let name = c.args.name in
    let change = Remove name in
    let last = last_is c.project-project.result.now s c.newest_version-before.result.now c.project-project.ensures (within n j).some c.newest_version-before.ensures in
    let models = c.models.ensures.same ∙ ap (λ (v : Version). v.models) (c.get.ensures ∙ c.snapshot.ensures) ∙ ap (λ (v : VersionState). v.content.models) last in
    let one = has_one s c.models.result.now name c.as_str.result.now c.has_model.result c.has_model.ensures models c.as_str.ensures c.if-not-has_model.false in
    let rest = full settings j n change in
    let behind = behind_none (no_model s name) rest one in
    let refusals = no_model s name ∷ rest in
    settled_adds j c.make_version.new.state.entries.items c.args.stamp c.args.number n c.in-Some.is (removed settings j name) refusals change c.in_ok-fault.field-0
    refl (c.in_ok-fault.ensures.fault ∙ sym behind) c.in_ok-fault.ensures.added
