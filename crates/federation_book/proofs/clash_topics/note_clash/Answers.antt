use Rattle.std.proofs.Common.{◌∙◌, ap}
use Rattle.book_history.specs.declared.changes.Change.TheVariants.{ClashTopic}
use Rattle.book_history.specs.Projects.{clash_at}
use Rattle.book_history.specs.History.{version_of}
use Rattle.book_history.specs.Requests.{noted}
use Rattle.federation_book.specs.KeptProjects.{settings_of}
use Rattle.federation_book.proofs.Clashing.{no_clash_done, clash_done}
use Rattle.federation_book.proofs.clash_topics.note_clash.Goals as goal

pub returns-in_default-clause-done : goal.returns-in_default-clause-done
returns-in_default-clause-done c =
    let h = c.args.state.now.entries.items in
    no_clash_done h c.args.stamp (version_of c.args.number c.args.version h) c.args.published.now c.args.place c.total-total.result
    (noted (settings_of c.args.state.now) h c.args.number (ClashTopic c.args.version c.args.place c.args.author c.args.weight)) c.requires.published c.in_default.ensures.is c.total-total.ensures

pub note-requires-clause-pair : goal.note-requires-clause-pair
note-requires-clause-pair c = c.in-Some.ensures.is ∙ ap (λ v. clash_at v c.args.place) c.requires.published

pub returns-clause-done : goal.returns-clause-done
returns-clause-done c =
    let h = c.args.state.now.entries.items in
    clash_done c.note.result h c.note.new.state.entries.items c.args.stamp (version_of c.args.number c.args.version h) c.args.published.now c.args.place c.in-Some.pair
    (noted (settings_of c.args.state.now) h c.args.number (ClashTopic c.args.version c.args.place c.args.author c.args.weight)) c.requires.published c.in-Some.ensures.is c.note.ensures.done
