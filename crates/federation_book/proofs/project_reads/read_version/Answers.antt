use Rattle.std.proofs.Common.{◌≡◌, ℕ, sym, ◌∙◌, ap, ap₂, arith}
use Rattle.bim_model.specs.Snapshots.{Version}
use Rattle.book_history.specs.declared.replies.ReplyBody.TheVariants as reply
use Rattle.book_history.specs.Versions.{VersionState, version_at}
use Rattle.book_history.specs.History.{state_of}
use Rattle.book_history.specs.Requests.{in_project, version_read, body_of}
use Rattle.federation_book.proofs.Reading.{newest_is, newest_small, not_refused, live_place, placed}
use Rattle.federation_book.proofs.Answering.{read_refused, read_answered}
use Rattle.federation_book.proofs.project_reads.read_version.Goals as goal

pub not_there-requires : goal.not_there-requires
not_there-requires c =
    let room = c.requires.kept.room in
    let most = c.requires.kept.within.journal in
    newest_small c.project-project.result.now c.in-Some.number c.args.state.now.entries.items c.project-project.ensures (omega (arith, room, most))

pub returns-in-Some-not_there : goal.returns-in-Some-not_there
returns-in-Some-not_there c =
    let h = c.args.state.now.entries.items in
    let n = c.in-Some.number in
    let k = c.project-project.ensures in
    let is = c.number_of-version.ensures (state_of n h) k in
    let fault = sym c.in-Some-not_there.is ∙ c.not_there.ensures (state_of n h) k in
    sym (ap (λ o. body_of h (in_project o (version_read h c.args.wanted))) c.in-Some.is ∙ read_refused h n c.args.wanted c.number_of-version.result is c.in-Some-not_there.fault fault)

pub place_of-requires-clause-made : goal.place_of-requires-clause-made
place_of-requires-clause-made c =
    let s = state_of c.in-Some.number c.args.state.now.entries.items in
    (not_refused c.project-project.result.now s c.number_of-version.result c.project-project.ensures (sym (c.not_there.ensures s c.project-project.ensures) ∙ c.in_default-not_there.is)).0

pub place_of-requires-clause-live : goal.place_of-requires-clause-live
place_of-requires-clause-live c =
    let p = c.project-project.result.now in
    let s = state_of c.in-Some.number c.args.state.now.entries.items in
    let k = c.project-project.ensures in
    let there = not_refused p s c.number_of-version.result k (sym (c.not_there.ensures s k) ∙ c.in_default-not_there.is) in
    live_place p s c.number_of-version.result k there.0 there.1

pub index-kept-requires : goal.index-kept-requires
index-kept-requires c =
    let p = c.project-project.result.now in
    let s = state_of c.in-Some.number c.args.state.now.entries.items in
    let k = c.project-project.ensures in
    let there = not_refused p s c.number_of-version.result k (sym (c.not_there.ensures s k) ∙ c.in_default-not_there.is) in
    let within = (placed p s c.number_of-version.result c.place_of.result k there.0 there.1 c.place_of.ensures).within in
    let all = p.live.ok.0 in
    omega (arith, within, all)

pub returns : goal.returns
returns c =
    let p = c.project-project.result.now in
    let h = c.args.state.now.entries.items in
    let n = c.in-Some.number in
    let s = state_of n h in
    let k = c.project-project.ensures in
    let v = c.number_of-version.result in
    let is = c.number_of-version.ensures s k in
    let none = sym c.in_default-not_there.is ∙ c.not_there.ensures s k in
    let there = not_refused p s v k (sym none) in
    let at = placed p s v c.place_of.result k there.0 there.1 c.place_of.ensures in
    let kept : c.index-kept.result.now ≡ version_at s.versions v = c.index-kept.ensures ∙ at.is c.index-kept.result.now in
    let content : c.in_ok-share.field-0 ≡ (version_at s.versions v).content = c.in_ok-share.ensures ∙ c.snapshot.ensures ∙ ap (λ (x : VersionState). x.content) kept in
    ap₂ (λ (m : ℕ) (x : Version). reply.Version v m x) (sym (newest_is p s k)) content
    ∙ sym (ap (λ o. body_of h (in_project o (version_read h c.args.wanted))) c.in-Some.is ∙ read_answered h n c.args.wanted v is none)
