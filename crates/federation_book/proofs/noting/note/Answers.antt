use Rattle.std.proofs.Common.{◌≡◌, ◌+◌, ◌-◌, ◌++◌, [], ◌∷◌, refl, sym, ◌∙◌, ap, subst, arith}
use Rattle.std.specs.Vec.{with_item}
use Rattle.book_topics.specs.Boards.{BoardState}
use Rattle.book_history.specs.declared.changes.Entry.{Entry}
use Rattle.book_history.specs.Projects.{with_change}
use Rattle.book_history.specs.History.{state_of, board_of}
use Rattle.book_history.specs.Refusals.{left_after}
use Rattle.book_history.specs.Requests.{entry_of}
use Rattle.federation_book.specs.declared.project.Project.{Project}
use Rattle.federation_book.specs.declared.state.State.{State}
use Rattle.federation_book.specs.KeptProjects.{KeepsProject, settings_of}
use Rattle.federation_book.specs.inner.Noting.{Fits}
use Rattle.federation_book.proofs.Accepting.{journal_room, text_room, kept_after, kept_asked}
use Rattle.federation_book.proofs.Noted.{noted_refused, noted_done, store_none, made_room, fits_note, noted_keeps, no_triangles}
use Rattle.federation_book.proofs.Outcomes.{kept_still}
use Rattle.federation_book.proofs.Taking.{kept_numbered}
use Rattle.federation_book.proofs.noting.note.Goals as goal

pub not_noted-requires-clause-note : goal.not_noted-requires-clause-note
not_noted-requires-clause-note c = fits_note (board_of c.args.number c.args.state.now.entries.items) c.args.pair c.args.change c.requires.fits

pub returns-in-Some-clause-done : goal.returns-in-Some-clause-done
returns-in-Some-clause-done c =
    noted_refused (settings_of c.args.state.now) c.args.state.now.entries.items c.args.stamp c.args.number c.args.change c.in-Some.fault (sym c.not_noted.ensures ∙ c.in-Some.is)

pub returns-in-Err-clause-kept : goal.returns-in-Err-clause-kept
returns-in-Err-clause-kept c =
    let old = c.args.state.now in
    let after : State = record { limits = old.limits; projects = old.projects; entries = c.reserve.new.self; triangles = old.triangles; text = old.text } in
    kept_still old after c.requires.kept refl c.reserve.ensures.items refl refl refl

pub apply-requires-clause-fits : goal.apply-requires-clause-fits
apply-requires-clause-fits c =
    let old = c.args.state.now in
    let h = old.entries.items in
    let n = c.args.number in
    let q = c.index_mut-project.result.now in
    let l : KeepsProject q (state_of n h) = kept_numbered old.projects.items h n q c.requires.kept.states c.requires.low c.requires.high c.index_mut-project.ensures.value in
    subst (λ (b : BoardState). Fits b c.args.pair c.args.change) (sym l.board) c.requires.fits

pub apply-requires-clause-room : goal.apply-requires-clause-room
apply-requires-clause-room c =
    let old = c.args.state.now in
    let h = old.entries.items in
    let n = c.args.number in
    let q = c.index_mut-project.result.now in
    let l : KeepsProject q (state_of n h) = kept_numbered old.projects.items h n q c.requires.kept.states c.requires.low c.requires.high c.index_mut-project.ensures.value in
    let room = c.requires.kept.room in
    made_room n h old.limits.journal q.board.made (omega (arith, room)) c.requires.kept.within.journal (ap (λ (b : BoardState). b.made) l.board)

pub returns-in-Err-apply-clause-kept : goal.returns-in-Err-apply-clause-kept
returns-in-Err-apply-clause-kept c =
    let old = c.args.state.now in
    let h = old.entries.items in
    let n = c.args.number in
    let q = c.index_mut-project.result.now in
    let l : KeepsProject q (state_of n h) = kept_numbered old.projects.items h n q c.requires.kept.states c.requires.low c.requires.high c.index_mut-project.ensures.value in
    let asked : Project = record { board = c.apply.new.board; newest = q.newest; live = q.live } in
    let after : State = record { limits = old.limits; projects = with_item old.projects (n - 1) asked; entries = c.reserve.new.self; triangles = old.triangles; text = old.text } in
    let keeps : KeepsProject asked (state_of n h) = record { board = c.in-Err-apply.ensures.err ∙ l.board; newest = l.newest; live = l.live } in
    kept_asked old after n asked c.requires.kept c.requires.low c.requires.high keeps refl c.reserve.ensures.items refl refl refl

pub append-requires-clause-text : goal.append-requires-clause-text
append-requires-clause-text c =
    let old = c.args.state.now in
    let h = old.entries.items in
    let none = store_none (settings_of old) h c.args.number c.args.change (sym c.not_noted.ensures ∙ c.in_default.is) in
    let room = text_room old.limits h _ none.second in
    let is = c.requires.kept.text in
    let weight = c.requires.weight in
    let most = c.requires.kept.within.text in
    omega (arith, room, is, weight, most)

pub returns-in-Ok-clause-done : goal.returns-in-Ok-clause-done
returns-in-Ok-clause-done c =
    let old = c.args.state.now in
    let h = old.entries.items in
    let n = c.args.number in
    let q = c.index_mut-project.result.now in
    let l : KeepsProject q (state_of n h) = kept_numbered old.projects.items h n q c.requires.kept.states c.requires.low c.requires.high c.index_mut-project.ensures.value in
    let e : Entry = entry_of c.args.stamp n c.args.change in
    let pushed : c.append.new.self.entries.items ≡ h ++ e ∷ [] = c.append.ensures.entries ∙ ap (λ es. es ++ e ∷ []) c.reserve.ensures.items in
    noted_done (settings_of old) h c.append.new.self.entries.items c.args.stamp n c.args.change c.args.pair q.board c.apply.new.board c.in-Ok.body
    (sym c.not_noted.ensures ∙ c.in_default.is) c.in-Ok.ensures.ok l.board c.requires.pair pushed

pub returns-in-Ok-clause-kept : goal.returns-in-Ok-clause-kept
returns-in-Ok-clause-kept c =
    let old = c.args.state.now in
    let h = old.entries.items in
    let n = c.args.number in
    let s = state_of n h in
    let change = c.args.change in
    let q = c.index_mut-project.result.now in
    let l : KeepsProject q s = kept_numbered old.projects.items h n q c.requires.kept.states c.requires.low c.requires.high c.index_mut-project.ensures.value in
    let note = fits_note (board_of n h) c.args.pair change c.requires.fits in
    let none = store_none (settings_of old) h n change (sym c.not_noted.ensures ∙ c.in_default.is) in
    let made : Project = record { board = c.apply.new.board; newest = q.newest; live = q.live } in
    let e : Entry = entry_of c.args.stamp n change in
    let pushed : c.append.new.self.entries.items ≡ h ++ e ∷ [] = c.append.ensures.entries ∙ ap (λ es. es ++ e ∷ []) c.reserve.ensures.items in
    let keeps : KeepsProject made (with_change s change) = noted_keeps q s change made l note (c.in-Ok.ensures.ok.board s (sym l.board) c.requires.pair) refl refl in
    let zero = no_triangles change note in
    kept_after old c.append.new.self e made c.requires.kept c.requires.after c.requires.low c.requires.high keeps (ap (λ ps. ps.items) c.append.ensures.projects) pushed
    (c.append.ensures.triangles ∙ ap (λ m. old.triangles + m) zero) (c.append.ensures.text ∙ ap (λ m. old.text + m) c.requires.weight) c.append.ensures.limits
    (journal_room (settings_of old) h (left_after (settings_of old).projects h n change) none.third)
