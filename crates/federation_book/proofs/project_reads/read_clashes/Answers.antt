use Rattle.std.proofs.Common.{◌≡◌, ◌-◌, ◌≤◌, length, get_or, refl, sym, ◌∙◌, ap, subst, arith}
use Rattle.std.specs.Option.{IfSome}
use Rattle.std.specs.Vec.{with_item}
use Rattle.std.proofs.lemmas.List.{length-set}
use Rattle.bim_model.specs.Snapshots.{Version}
use Rattle.book_history.specs.declared.limits.Settings.{Settings}
use Rattle.book_history.specs.declared.replies.ReplyBody.TheVariants as reply
use Rattle.book_history.specs.Versions.{VersionState, version_at}
use Rattle.book_history.specs.History.{state_of}
use Rattle.book_history.specs.Requests.{in_project, clashes_read, body_of}
use Rattle.federation_book.specs.declared.project.Project.{Project}
use Rattle.federation_book.specs.declared.state.State.{State}
use Rattle.federation_book.specs.KeptProjects.{KeepsProject}
use Rattle.federation_book.proofs.Accepting.{kept_asked}
use Rattle.federation_book.proofs.Reading.{newest_small, not_refused, live_place, placed, placed_there, keeps_same}
use Rattle.federation_book.proofs.Taking.{kept_numbered}
use Rattle.federation_book.proofs.Answering.{clashes_refused, clashes_pending, clashes_answered}
use Rattle.federation_book.proofs.project_reads.read_clashes.Goals as goal

pub not_there-requires : goal.not_there-requires
not_there-requires c =
    let room = c.requires.kept.room in
    let most = c.requires.kept.within.journal in
    newest_small c.project-project.result.now c.in-Some.number c.args.state.now.entries.items c.project-project.ensures (omega (arith, room, most))

pub returns-in-Some-not_there-clause-reply : goal.returns-in-Some-not_there-clause-reply
returns-in-Some-not_there-clause-reply c =
    let h = c.args.state.now.entries.items in
    let n = c.in-Some.number in
    let k = c.project-project.ensures in
    let is = c.number_of-version.ensures (state_of n h) k in
    let fault = sym c.in-Some-not_there.is ∙ c.not_there.ensures (state_of n h) k in
    sym (ap (λ o. body_of h (in_project o (clashes_read h c.args.wanted c.args.first c.args.count))) c.in-Some.is
    ∙ clashes_refused h n c.args.wanted c.number_of-version.result is c.args.first c.args.count c.in-Some-not_there.fault fault)

pub place_of-place-requires-clause-made : goal.place_of-place-requires-clause-made
place_of-place-requires-clause-made c =
    let s = state_of c.in-Some.number c.args.state.now.entries.items in
    (not_refused c.project-project.result.now s c.number_of-version.result c.project-project.ensures (sym (c.not_there.ensures s c.project-project.ensures) ∙ c.in_default-not_there.is)).0

pub place_of-place-requires-clause-live : goal.place_of-place-requires-clause-live
place_of-place-requires-clause-live c =
    let p = c.project-project.result.now in
    let s = state_of c.in-Some.number c.args.state.now.entries.items in
    let k = c.project-project.ensures in
    let there = not_refused p s c.number_of-version.result k (sym (c.not_there.ensures s k) ∙ c.in_default-not_there.is) in
    live_place p s c.number_of-version.result k there.0 there.1

pub index-requires : goal.index-requires
index-requires c =
    let p = c.project-project.result.now in
    let s = state_of c.in-Some.number c.args.state.now.entries.items in
    let k = c.project-project.ensures in
    let there = not_refused p s c.number_of-version.result k (sym (c.not_there.ensures s k) ∙ c.in_default-not_there.is) in
    let within = (placed p s c.number_of-version.result c.place_of-place.result k there.0 there.1 c.place_of-place.ensures).within in
    let all = p.live.ok.0 in
    omega (arith, within, all)

pub returns-then-left-gt0-clause-reply : goal.returns-then-left-gt0-clause-reply
returns-then-left-gt0-clause-reply c =
    let p = c.project-project.result.now in
    let h = c.args.state.now.entries.items in
    let n = c.in-Some.number in
    let s = state_of n h in
    let k = c.project-project.ensures in
    let v = c.number_of-version.result in
    let is = c.number_of-version.ensures s k in
    let none = sym c.in_default-not_there.is ∙ c.not_there.ensures s k in
    let there = not_refused p s v k (sym none) in
    let at = placed p s v c.place_of-place.result k there.0 there.1 c.place_of-place.ensures in
    let kept : c.index.result.now ≡ version_at s.versions v = c.index.ensures ∙ at.is c.index.result.now in
    let many = c.left-left.ensures ∙ ap (λ (x : VersionState). length x.undone) kept in
    sym (ap (λ o. body_of h (in_project o (clashes_read h c.args.wanted c.args.first c.args.count))) c.in-Some.is
    ∙ clashes_pending h n c.args.wanted v is c.args.first c.args.count c.left-left.result none many c.if-left-gt0.true)

pub index_mut-project-requires : goal.index_mut-project-requires
index_mut-project-requires c =
    let number = subst (λ o. IfSome o (λ n. (1 ≤ n) × (n ≤ length c.args.state.now.projects.items))) c.in-Some.is c.requires.number in
    let low = number.0 in
    let high = number.1 in
    let all = c.args.state.now.projects.ok.0 in
    omega (arith, low, high, all)

pub index_mut-requires : goal.index_mut-requires
index_mut-requires c =
    let p = c.project-project.result.now in
    let q = c.index_mut-project.result.now in
    let h = c.args.state.now.entries.items in
    let n = c.in-Some.number in
    let s = state_of n h in
    let k = c.project-project.ensures in
    let number = subst (λ o. IfSome o (λ n. (1 ≤ n) × (n ≤ length c.args.state.now.projects.items))) c.in-Some.is c.requires.number in
    let l : KeepsProject q s = kept_numbered c.args.state.now.projects.items h n q c.requires.kept.states number.0 number.1 c.index_mut-project.ensures.value in
    let there = not_refused p s c.number_of-version.result k (sym (c.not_there.ensures s k) ∙ c.in_default-not_there.is) in
    let within = (placed_there p q s c.number_of-version.result c.place_of-place.result k l there.0 there.1 c.place_of-place.ensures).within in
    let all = q.live.ok.0 in
    omega (arith, within, all)

pub clashes-requires : goal.clashes-requires
clashes-requires c =
    let p = c.project-project.result.now in
    let q = c.index_mut-project.result.now in
    let h = c.args.state.now.entries.items in
    let n = c.in-Some.number in
    let s = state_of n h in
    let k = c.project-project.ensures in
    let v = c.number_of-version.result in
    let number = subst (λ o. IfSome o (λ n. (1 ≤ n) × (n ≤ length c.args.state.now.projects.items))) c.in-Some.is c.requires.number in
    let l : KeepsProject q s = kept_numbered c.args.state.now.projects.items h n q c.requires.kept.states number.0 number.1 c.index_mut-project.ensures.value in
    let there = not_refused p s v k (sym (c.not_there.ensures s k) ∙ c.in_default-not_there.is) in
    let first = placed p s v c.place_of-place.result k there.0 there.1 c.place_of-place.ensures in
    let second = placed_there p q s v c.place_of-place.result k l there.0 there.1 c.place_of-place.ensures in
    let same : c.index_mut.result.now ≡ c.index.result.now =
    c.index_mut.ensures.value ∙ second.is c.index_mut.result.now ∙ sym (c.index.ensures ∙ first.is c.index.result.now) in
    let count = ap (λ (x : VersionState). length x.undone) same in
    let left = c.left-left.ensures in
    let none = c.if-left-gt0.false in
    omega (arith, count, left, none)

pub returns-clause-reply : goal.returns-clause-reply
returns-clause-reply c =
    let p = c.project-project.result.now in
    let q = c.index_mut-project.result.now in
    let h = c.args.state.now.entries.items in
    let n = c.in-Some.number in
    let s = state_of n h in
    let k = c.project-project.ensures in
    let v = c.number_of-version.result in
    let is = c.number_of-version.ensures s k in
    let none = sym c.in_default-not_there.is ∙ c.not_there.ensures s k in
    let number = subst (λ o. IfSome o (λ n. (1 ≤ n) × (n ≤ length c.args.state.now.projects.items))) c.in-Some.is c.requires.number in
    let l : KeepsProject q s = kept_numbered c.args.state.now.projects.items h n q c.requires.kept.states number.0 number.1 c.index_mut-project.ensures.value in
    let there = not_refused p s v k (sym none) in
    let first = placed p s v c.place_of-place.result k there.0 there.1 c.place_of-place.ensures in
    let second = placed_there p q s v c.place_of-place.result k l there.0 there.1 c.place_of-place.ensures in
    let many = c.left-left.ensures ∙ ap (λ (x : VersionState). length x.undone) (c.index.ensures ∙ first.is c.index.result.now) in
    let left = c.if-left-gt0.false in
    let rests : c.left-left.result ≡ 0 = omega (arith, left) in
    let content = c.in_ok-set.ensures.set ∙ ap (λ (x : VersionState). x.content) (c.index_mut.ensures.value ∙ second.is c.index_mut.result.now) in
    ap (λ (x : Version). reply.Clashes v x c.args.first c.args.count) content
    ∙ sym (ap (λ o. body_of h (in_project o (clashes_read h c.args.wanted c.args.first c.args.count))) c.in-Some.is
    ∙ clashes_answered h n c.args.wanted v is c.args.first c.args.count c.left-left.result none many rests)

pub returns-clause-settings : goal.returns-clause-settings
returns-clause-settings c =
    ap (λ m. (let r : Settings = record { projects = m; limits = c.args.state.now.limits } in r)) (length-set c.args.state.now.projects.items (c.in-Some.number - 1) _)

pub returns-clause-kept : goal.returns-clause-kept
returns-clause-kept c =
    let q = c.index_mut-project.result.now in
    let old = c.args.state.now in
    let h = old.entries.items in
    let n = c.in-Some.number in
    let s = state_of n h in
    let number = subst (λ o. IfSome o (λ n. (1 ≤ n) × (n ≤ length c.args.state.now.projects.items))) c.in-Some.is c.requires.number in
    let l : KeepsProject q s = kept_numbered old.projects.items h n q c.requires.kept.states number.0 number.1 c.index_mut-project.ensures.value in
    let asked : Project = record { board = q.board; newest = q.newest; live = with_item q.live c.place_of-place.result c.clashes.new.self } in
    let after : State = record { limits = old.limits; projects = with_item old.projects (n - 1) asked; entries = old.entries; triangles = old.triangles; text = old.text } in
    let value : c.clashes.new.self ≡ get_or q.live.items c.place_of-place.result c.clashes.new.self =
    c.in_ok-set.ensures.same ∙ c.index_mut.ensures.value ∙ ap (λ x. get_or q.live.items c.place_of-place.result x) (sym c.in_ok-set.ensures.same) in
    kept_asked old after n asked c.requires.kept number.0 number.1
    (keeps_same q asked s c.place_of-place.result c.clashes.new.self l refl refl refl value)
    refl refl refl refl refl

pub returns-in_err-set-clause-settings : goal.returns-in_err-set-clause-settings
returns-in_err-set-clause-settings c =
    ap (λ m. (let r : Settings = record { projects = m; limits = c.args.state.now.limits } in r)) (length-set c.args.state.now.projects.items (c.in-Some.number - 1) _)

pub returns-in_err-set-clause-kept : goal.returns-in_err-set-clause-kept
returns-in_err-set-clause-kept c =
    let q = c.index_mut-project.result.now in
    let old = c.args.state.now in
    let h = old.entries.items in
    let n = c.in-Some.number in
    let s = state_of n h in
    let number = subst (λ o. IfSome o (λ n. (1 ≤ n) × (n ≤ length c.args.state.now.projects.items))) c.in-Some.is c.requires.number in
    let l : KeepsProject q s = kept_numbered old.projects.items h n q c.requires.kept.states number.0 number.1 c.index_mut-project.ensures.value in
    let asked : Project = record { board = q.board; newest = q.newest; live = with_item q.live c.place_of-place.result c.clashes.new.self } in
    let after : State = record { limits = old.limits; projects = with_item old.projects (n - 1) asked; entries = old.entries; triangles = old.triangles; text = old.text } in
    let value : c.clashes.new.self ≡ get_or q.live.items c.place_of-place.result c.clashes.new.self =
    c.in_err-set.ensures.same ∙ c.index_mut.ensures.value ∙ ap (λ x. get_or q.live.items c.place_of-place.result x) (sym c.in_err-set.ensures.same) in
    kept_asked old after n asked c.requires.kept number.0 number.1
    (keeps_same q asked s c.place_of-place.result c.clashes.new.self l refl refl refl value)
    refl refl refl refl refl
