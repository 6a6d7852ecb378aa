use Rattle.std.proofs.Common.{length, sym, ◌∙◌, ap}
use Rattle.book_history.specs.declared.changes.Change.TheVariants.{ClashTopic}
use Rattle.book_history.specs.declared.book_fault.BookFault.TheVariants.{NoProject}
use Rattle.book_history.specs.Versions.{version_at}
use Rattle.book_history.specs.History.{state_of, content_of}
use Rattle.book_history.specs.Refusals.{project_of}
use Rattle.book_history.specs.Requests.{clash_noted}
use Rattle.federation_book.specs.KeptProjects.{settings_of}
use Rattle.federation_book.proofs.Clashing.{not_ready, ready, then_noted, still_done}
use Rattle.federation_book.proofs.Finding.{none_done, one_done, some_done}
use Rattle.federation_book.proofs.clash_topics.clash_topic.Goals as goal

pub returns-in_default-clause-done : goal.returns-in_default-clause-done
returns-in_default-clause-done c =
    let h = c.args.state.now.entries.items in
    let settings = settings_of c.args.state.now in
    let count = length c.args.state.now.projects.items in
    none_done h c.args.stamp NoProject (project_of count c.args.project) (clash_noted settings h c.args.wanted c.args.place c.args.author c.args.weight) (sym c.in_default.ensures.is)

pub note_clash-requires-clause-published : goal.note_clash-requires-clause-published
note_clash-requires-clause-published c =
    let h = c.args.state.now.entries.items in
    let settings = settings_of c.args.state.now in
    let n = c.in-Some.number in
    let got = ready settings h c.args.stamp n c.args.wanted c.args.place c.args.author c.args.weight c.in-Clashes.version c.in-Clashes.set _ _ (sym c.in-Clashes.is ∙ c.in_ok-read.ensures.reply) in
    c.get.ensures ∙ sym got.set_is ∙ ap (λ v. (version_at (state_of n h).versions v).content) got.number_is
    ∙ ap (λ j. content_of n c.in-Clashes.version j) (sym c.read_clashes.ensures.entries)

pub returns-in-Clashes-clause-done : goal.returns-in-Clashes-clause-done
returns-in-Clashes-clause-done c =
    let h = c.args.state.now.entries.items in
    let k = c.note_clash.new.state.entries.items in
    let settings = settings_of c.args.state.now in
    let count = length c.args.state.now.projects.items in
    let n = c.in-Some.number in
    let number = c.in-Clashes.version in
    let got = ready settings h c.args.stamp n c.args.wanted c.args.place c.args.author c.args.weight number c.in-Clashes.set _ _ (sym c.in-Clashes.is ∙ c.in_ok-read.ensures.reply) in
    some_done c.note_clash.result h k c.args.stamp NoProject (project_of count c.args.project) n
    (clash_noted settings h c.args.wanted c.args.place c.args.author c.args.weight) (sym c.in-Some.ensures.is)
    (then_noted settings h c.args.stamp n c.args.wanted c.args.place c.args.author c.args.weight c.note_clash.result k number c.in-Clashes.set got
    (still_done c.note_clash.result settings (settings_of c.read_clashes.new.state) h c.read_clashes.new.state.entries.items k c.args.stamp n number c.args.place
    (ClashTopic number c.args.place c.args.author c.args.weight) c.read_clashes.ensures.settings c.read_clashes.ensures.entries c.note_clash.ensures.done))

pub returns-in_default-read-clause-done : goal.returns-in_default-read-clause-done
returns-in_default-read-clause-done c =
    let h = c.args.state.now.entries.items in
    let settings = settings_of c.args.state.now in
    let count = length c.args.state.now.projects.items in
    let n = c.in-Some.number in
    let outcome = clash_noted settings h c.args.wanted c.args.place c.args.author c.args.weight in
    let done = one_done h h c.args.stamp NoProject (project_of count c.args.project) n outcome c.in_ok-read.read (sym c.in-Some.ensures.is)
    (not_ready settings h c.args.stamp n c.args.wanted c.args.place c.args.author c.args.weight c.in_ok-read.read c.in_ok-read.ensures.reply c.in_default-read.not-Clashes) in
    record { reply = done.reply; added = c.read_clashes.ensures.entries ∙ done.added }
