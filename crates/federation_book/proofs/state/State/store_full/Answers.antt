use Rattle.std.proofs.Common.{length, sym, ap, ◌∙◌}
use Rattle.book_history.specs.Versions.{live_in}
use Rattle.book_history.specs.Projects.{with_change}
use Rattle.book_history.specs.History.{state_of, left_in}
use Rattle.book_history.specs.Weights.{text_of, triangles_of}
use Rattle.book_history.specs.Refusals.{triangles_if, text_if, journal_if, left_after}
use Rattle.federation_book.specs.KeptProjects.{settings_of}
use Rattle.federation_book.proofs.Sizes.{third_is}
use Rattle.federation_book.proofs.state.State.store_full.Goals as goal

pub returns : goal.returns
returns c change triangles text left =
    let s = c.args.self.now in
    let j = s.entries.items in
    let count = left_in (live_in (with_change (state_of c.args.number j) change).versions) in
    third_is (triangles_if s.limits j (triangles_of change)) (text_if s.limits j (text_of change))
    (journal_if (settings_of s) j (left_after (length s.projects.items) j c.args.number change)) c.journal_full.result
    (ap (triangles_if s.limits j) (sym triangles) ∙ sym c.triangles_full.ensures ∙ c.in_default.is)
    (sym (c.text_full.ensures (text_of change) text) ∙ c.in_default-text_full.is)
    (c.journal_full.ensures count left)
