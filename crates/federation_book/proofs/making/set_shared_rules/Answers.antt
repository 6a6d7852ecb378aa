use Rattle.std.proofs.Common.{sym, refl, ◌∙◌, ap}
use Rattle.bim_model.specs.Snapshots.{Version}
use Rattle.book_history.specs.declared.changes.Change.TheVariants.{SetRules}
use Rattle.book_history.specs.Versions.{VersionState}
use Rattle.book_history.specs.Projects.{with_change}
use Rattle.book_history.specs.History.{state_of}
use Rattle.book_history.specs.Refusals.{first_of, full}
use Rattle.book_history.specs.Requests.{Accepted, changed, entry_of}
use Rattle.book_history.proofs.States.{within}
use Rattle.federation_book.specs.KeptProjects.{settings_of}
use Rattle.federation_book.proofs.Advancing.{last_is}
use Rattle.federation_book.proofs.Outcomes.{is_refused, is_accepted, refused_reply, accepted_reply}
use Rattle.federation_book.proofs.Changing.{rules_next, state_then, whole_then, settled_adds, settled_entry}
use Rattle.federation_book.proofs.making.set_shared_rules.Goals as goal

pub make_version-requires-clause-next : goal.make_version-requires-clause-next
make_version-requires-clause-next c =
    let n = c.in-Some.number in
    let j = c.args.state.now.entries.items in
    let s = state_of n j in
    let last = last_is c.project-project.result.now s c.newest_version-before.result.now c.project-project.ensures (within n j).some c.newest_version-before.ensures in
    let content = c.get.ensures ∙ c.snapshot.ensures ∙ ap (λ (v : VersionState). v.content) last in
    rules_next s c.get.result.now c.in_ok-snapshot.snapshot c.args.rules c.args.weight content
    (ap (λ (v : Version). v.models) c.in_ok-snapshot.ensures ∙ c.in_ok-next.ensures.models)
    (ap (λ (v : Version). v.rules) c.in_ok-snapshot.ensures ∙ c.in_ok-next.ensures.rules ∙ c.in_ok-share.ensures)

pub returns-in-Some-2-clause-reply : goal.returns-in-Some-2-clause-reply
returns-in-Some-2-clause-reply c =
    let n = c.in-Some.number in
    let j = c.args.state.now.entries.items in
    let s = state_of n j in
    let settings = settings_of c.args.state.now in
    let change = SetRules c.args.rules c.args.weight in
    let k = c.make_version.new.state.entries.items in
    let fault = c.in_ok-fault.ensures.fault in
    refused_reply j c.args.stamp c.args.number n c.in-Some.is (changed settings j change) c.in-Some-2.fault
    (is_refused (full settings j n change) (Accepted n change) c.in-Some-2.fault (sym fault ∙ c.in-Some-2.is))

pub returns-in-Some-2-clause-added : goal.returns-in-Some-2-clause-added
returns-in-Some-2-clause-added c =
    let n = c.in-Some.number in
    let j = c.args.state.now.entries.items in
    let s = state_of n j in
    let settings = settings_of c.args.state.now in
    let change = SetRules c.args.rules c.args.weight in
    let k = c.make_version.new.state.entries.items in
    let fault = c.in_ok-fault.ensures.fault in
    let added = c.in_ok-fault.ensures.added in
    settled_adds j k c.args.stamp c.args.number n c.in-Some.is (changed settings j change) (full settings j n change) change c.in_ok-fault.field-0 refl fault added

pub returns-in-None-clause-reply : goal.returns-in-None-clause-reply
returns-in-None-clause-reply c =
    let n = c.in-Some.number in
    let j = c.args.state.now.entries.items in
    let s = state_of n j in
    let settings = settings_of c.args.state.now in
    let change = SetRules c.args.rules c.args.weight in
    let k = c.make_version.new.state.entries.items in
    let fault = c.in_ok-fault.ensures.fault in
    let added = c.in_ok-fault.ensures.added in
    let entry = settled_entry j k (entry_of c.args.stamp n change) c.in_ok-fault.field-0 added c.in-None.is in
    accepted_reply j c.args.stamp c.args.number n c.in-Some.is (changed settings j change) change c.whole_version_made.result
    (is_accepted (full settings j n change) (Accepted n change) (sym fault ∙ c.in-None.is))
    (whole_then (with_change s change) (state_of n k) c.whole_version_made.result c.whole_version_made.ensures (state_then k j (entry_of c.args.stamp n change) entry))

pub returns-in-None-clause-added : goal.returns-in-None-clause-added
returns-in-None-clause-added c =
    let n = c.in-Some.number in
    let j = c.args.state.now.entries.items in
    let s = state_of n j in
    let settings = settings_of c.args.state.now in
    let change = SetRules c.args.rules c.args.weight in
    let k = c.make_version.new.state.entries.items in
    let fault = c.in_ok-fault.ensures.fault in
    let added = c.in_ok-fault.ensures.added in
    settled_adds j k c.args.stamp c.args.number n c.in-Some.is (changed settings j change) (full settings j n change) change c.in_ok-fault.field-0 refl fault added
