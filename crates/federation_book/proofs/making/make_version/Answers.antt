use Rattle.std.proofs.Common.{◌≡◌, ◌+◌, ◌-◌, ◌++◌, [], ◌∷◌, length, None, refl, sym, ◌∙◌, ap, subst, arith}
use Rattle.std.specs.Vec.{with_item}
use Rattle.book_history.specs.declared.changes.Entry.{Entry}
use Rattle.book_history.specs.Versions.{live_in}
use Rattle.book_history.specs.History.{state_of}
use Rattle.book_history.specs.Refusals.{store_full, triangles_if, text_if, journal_if, left_after}
use Rattle.book_history.specs.Requests.{entry_of}
use Rattle.book_history.specs.Weights.{triangles_of, text_of}
use Rattle.book_history.proofs.Live.{few_live}
use Rattle.book_history.proofs.States.{within}
use Rattle.federation_book.specs.declared.project.Project.{Project}
use Rattle.federation_book.specs.declared.state.State.{State}
use Rattle.federation_book.specs.KeptProjects.{KeepsProject, settings_of}
use Rattle.federation_book.specs.inner.NextVersions.{IsNext}
use Rattle.federation_book.proofs.Accepting.{none_of, journal_room, triangles_room, text_room, kept_after, kept_asked}
use Rattle.federation_book.proofs.Taking.{kept_numbered}
use Rattle.federation_book.proofs.Outcomes.{kept_still}
use Rattle.federation_book.proofs.Advancing.{left_then, keeps_then, full_then, not_some}
use Rattle.federation_book.proofs.making.make_version.Goals as goal

pub overflow_add-project : goal.overflow_add-project
overflow_add-project c =
    let j = c.args.state.now.entries.items in
    let newest = c.project-project.ensures.newest in
    let few = (within c.args.number j).versions_in in
    let room = c.requires.kept.room in
    let most = c.requires.kept.within.journal in
    omega (arith, newest, few, room, most)

pub returns-then-is_some-clause-fault : goal.returns-then-is_some-clause-fault
returns-then-is_some-clause-fault c =
    let old = c.args.state.now in
    let j = old.entries.items in
    let n = c.args.number in
    let s = state_of n j in
    let p = c.project-project.result.now in
    let k = c.project-project.ensures in
    let before = c.newest_version-before.result.now in
    let v = c.in-Made.version in
    let is = subst (IsNext old.limits before c.args.snapshot) c.in-Made.is c.in_ok-next.ensures in
    let left = left_then p s c.args.change before v c.args.snapshot k (within n j).some c.newest_version-before.ensures is.1 c.requires.next c.left.result c.left_with-left.result c.left.ensures c.left_with-left.ensures in
    full_then p s c.args.change before v c.args.snapshot k (within n j).some c.newest_version-before.ensures is.1 c.requires.next old.limits (store_full (settings_of old) j n c.args.change) c.store_full-full.result
    is.0 (c.store_full-full.ensures c.args.change c.requires.triangles c.requires.text left)

pub returns-in_err-reserve-clause-kept : goal.returns-in_err-reserve-clause-kept
returns-in_err-reserve-clause-kept c =
    let old = c.args.state.now in
    let after : State = record { limits = old.limits; projects = old.projects; entries = c.reserve.new.self; triangles = old.triangles; text = old.text } in
    kept_still old after c.requires.kept refl c.in_err-reserve.ensures.items refl refl refl

pub returns-in_err-reserve-2-clause-kept : goal.returns-in_err-reserve-2-clause-kept
returns-in_err-reserve-2-clause-kept c =
    let old = c.args.state.now in
    let j = old.entries.items in
    let n = c.args.number in
    let q = c.index_mut-project.result.now in
    let l : KeepsProject q (state_of n j) = kept_numbered old.projects.items j n q c.requires.kept.states c.requires.low c.requires.high c.index_mut-project.ensures.value in
    let asked : Project = record { board = q.board; newest = q.newest; live = c.reserve-2.new.self } in
    let after : State = record { limits = old.limits; projects = with_item old.projects (n - 1) asked; entries = c.reserve.new.self; triangles = old.triangles; text = old.text } in
    let keeps : KeepsProject asked (state_of n j) = record { board = l.board; newest = l.newest; live = c.in_err-reserve-2.ensures.items ∙ l.live } in
    kept_asked old after n asked c.requires.kept c.requires.low c.requires.high keeps refl c.in_ok-reserve.ensures.items refl refl refl

pub push_version-requires-clause-few : goal.push_version-requires-clause-few
push_version-requires-clause-few c =
    let old = c.args.state.now in
    let j = old.entries.items in
    let n = c.args.number in
    let q = c.index_mut-project.result.now in
    let l : KeepsProject q (state_of n j) = kept_numbered old.projects.items j n q c.requires.kept.states c.requires.low c.requires.high c.index_mut-project.ensures.value in
    let count = ap length (c.in_ok-reserve-2.ensures.items ∙ l.live) in
    let few = few_live (state_of n j).versions in
    omega (arith, count, few)

pub push_version-requires-clause-number : goal.push_version-requires-clause-number
push_version-requires-clause-number c =
    let old = c.args.state.now in
    let j = old.entries.items in
    let n = c.args.number in
    let q = c.index_mut-project.result.now in
    let l : KeepsProject q (state_of n j) = kept_numbered old.projects.items j n q c.requires.kept.states c.requires.low c.requires.high c.index_mut-project.ensures.value in
    let newest = l.newest in
    let few = (within n j).versions_in in
    let room = c.requires.kept.room in
    let most = c.requires.kept.within.journal in
    omega (arith, newest, few, room, most)

pub append-requires-clause-triangles : goal.append-requires-clause-triangles
append-requires-clause-triangles c =
    let old = c.args.state.now in
    let j = old.entries.items in
    let n = c.args.number in
    let s = state_of n j in
    let p = c.project-project.result.now in
    let k = c.project-project.ensures in
    let before = c.newest_version-before.result.now in
    let v = c.in-Made.version in
    let is = subst (IsNext old.limits before c.args.snapshot) c.in-Made.is c.in_ok-next.ensures in
    let left = left_then p s c.args.change before v c.args.snapshot k (within n j).some c.newest_version-before.ensures is.1 c.requires.next c.left.result c.left_with-left.result c.left.ensures c.left_with-left.ensures in
    let none = none_of (triangles_if old.limits j (triangles_of c.args.change)) (text_if old.limits j (text_of c.args.change)) (journal_if (settings_of old) j (left_after (length old.projects.items) j n c.args.change))
    (sym (c.store_full-full.ensures c.args.change c.requires.triangles c.requires.text left) ∙ not_some c.store_full-full.result c.is_some.result c.is_some.ensures c.if-is_some.false) in
    let room = triangles_room old.limits j (triangles_of c.args.change) none.first in
    let sum = c.requires.kept.triangles in
    let most = c.requires.kept.within.triangles in
    let more = c.requires.triangles in
    omega (arith, room, sum, most, more)

pub append-requires-clause-text : goal.append-requires-clause-text
append-requires-clause-text c =
    let old = c.args.state.now in
    let j = old.entries.items in
    let n = c.args.number in
    let s = state_of n j in
    let p = c.project-project.result.now in
    let k = c.project-project.ensures in
    let before = c.newest_version-before.result.now in
    let v = c.in-Made.version in
    let is = subst (IsNext old.limits before c.args.snapshot) c.in-Made.is c.in_ok-next.ensures in
    let left = left_then p s c.args.change before v c.args.snapshot k (within n j).some c.newest_version-before.ensures is.1 c.requires.next c.left.result c.left_with-left.result c.left.ensures c.left_with-left.ensures in
    let none = none_of (triangles_if old.limits j (triangles_of c.args.change)) (text_if old.limits j (text_of c.args.change)) (journal_if (settings_of old) j (left_after (length old.projects.items) j n c.args.change))
    (sym (c.store_full-full.ensures c.args.change c.requires.triangles c.requires.text left) ∙ not_some c.store_full-full.result c.is_some.result c.is_some.ensures c.if-is_some.false) in
    let room = text_room old.limits j (text_of c.args.change) none.second in
    let sum = c.requires.kept.text in
    let most = c.requires.kept.within.text in
    let more = c.requires.text in
    omega (arith, room, sum, most, more)

pub returns-clause-fault : goal.returns-clause-fault
returns-clause-fault c =
    let old = c.args.state.now in
    let j = old.entries.items in
    let n = c.args.number in
    let s = state_of n j in
    let p = c.project-project.result.now in
    let k = c.project-project.ensures in
    let before = c.newest_version-before.result.now in
    let v = c.in-Made.version in
    let is = subst (IsNext old.limits before c.args.snapshot) c.in-Made.is c.in_ok-next.ensures in
    let left = left_then p s c.args.change before v c.args.snapshot k (within n j).some c.newest_version-before.ensures is.1 c.requires.next c.left.result c.left_with-left.result c.left.ensures c.left_with-left.ensures in
    full_then p s c.args.change before v c.args.snapshot k (within n j).some c.newest_version-before.ensures is.1 c.requires.next old.limits (store_full (settings_of old) j n c.args.change) None
    is.0 (sym (not_some c.store_full-full.result c.is_some.result c.is_some.ensures c.if-is_some.false) ∙ c.store_full-full.ensures c.args.change c.requires.triangles c.requires.text left)

pub returns-clause-kept : goal.returns-clause-kept
returns-clause-kept c =
    let old = c.args.state.now in
    let j = old.entries.items in
    let n = c.args.number in
    let s = state_of n j in
    let p = c.project-project.result.now in
    let q = c.index_mut-project.result.now in
    let r = c.push_version.new.self in
    let k = c.project-project.ensures in
    let before = c.newest_version-before.result.now in
    let v = c.in-Made.version in
    let is = subst (IsNext old.limits before c.args.snapshot) c.in-Made.is c.in_ok-next.ensures in
    let left = left_then p s c.args.change before v c.args.snapshot k (within n j).some c.newest_version-before.ensures is.1 c.requires.next c.left.result c.left_with-left.result c.left.ensures c.left_with-left.ensures in
    let none = none_of (triangles_if old.limits j (triangles_of c.args.change)) (text_if old.limits j (text_of c.args.change)) (journal_if (settings_of old) j (left_after (length old.projects.items) j n c.args.change))
    (sym (c.store_full-full.ensures c.args.change c.requires.triangles c.requires.text left) ∙ not_some c.store_full-full.result c.is_some.result c.is_some.ensures c.if-is_some.false) in
    let l : KeepsProject q s = kept_numbered old.projects.items j n q c.requires.kept.states c.requires.low c.requires.high c.index_mut-project.ensures.value in
    let live = c.push_version.ensures.live ∙ ap (λ vs. live_in (vs ++ v ∷ [])) c.in_ok-reserve-2.ensures.items in
    let keeps = keeps_then p s c.args.change before v c.args.snapshot k (within n j).some c.newest_version-before.ensures is.1 c.requires.next q r l live c.push_version.ensures.newest c.push_version.ensures.board in
    let e : Entry = entry_of c.args.stamp n c.args.change in
    let pushed : c.append.new.self.entries.items ≡ j ++ e ∷ [] = c.append.ensures.entries ∙ ap (λ es. es ++ e ∷ []) c.in_ok-reserve.ensures.items in
    let room = text_room old.limits j (text_of c.args.change) none.second in
    let most = c.requires.kept.within.text in
    let told_text = c.requires.text in
    let text : c.args.text ≡ text_of c.args.change = omega (arith, room, most, told_text) in
    kept_after old c.append.new.self e r c.requires.kept c.requires.after c.requires.low c.requires.high keeps (ap (λ ps. ps.items) c.append.ensures.projects) pushed
    (c.append.ensures.triangles ∙ ap (λ m. old.triangles + m) c.requires.triangles) (c.append.ensures.text ∙ ap (λ m. old.text + m) text) c.append.ensures.limits
    (journal_room (settings_of old) j (left_after (length old.projects.items) j n c.args.change) none.third)
