use Rattle.std.proofs.Common.{◌≡◌, ◌∙◌, sym, ap, arith}
use Rattle.book_history.specs.History.{state_of, left_in}
use Rattle.book_history.specs.Refusals.{too_many, store_full}
use Rattle.book_history.specs.Weights.{told, text_of}
use Rattle.federation_book.specs.KeptProjects.{settings_of}
use Rattle.federation_book.proofs.Noted.{behind_some, behind_all, no_triangles, left_stays}
use Rattle.federation_book.proofs.noting.not_noted.Goals as goal

pub returns-in-Some : goal.returns-in-Some
returns-in-Some c =
    let h = c.args.state.now.entries.items in
    let s = settings_of c.args.state.now in
    sym (behind_some (too_many s h c.args.change.now) (store_full s h c.args.number c.args.change.now) c.in-Some.fault (sym c.too_many.ensures ∙ c.in-Some.is))

pub returns : goal.returns
returns c =
    let h = c.args.state.now.entries.items in
    let s = settings_of c.args.state.now in
    let change = c.args.change.now in
    let none = sym c.too_many.ensures ∙ c.in_default.is in
    let weight : c.args.weight ≡ told (text_of change) = let w = c.requires.weight in omega (arith, w) in
    let left = left_stays c.project.result.now (state_of c.args.number h) change c.left_in-left.result c.project.ensures c.requires.note (c.left_in-left.ensures ∙ ap (λ vs. told (left_in vs)) c.deref.ensures.value) in
    c.store_full.ensures change (no_triangles change c.requires.note) weight left
    ∙ sym (behind_all (too_many s h change) (store_full s h c.args.number change) none)
