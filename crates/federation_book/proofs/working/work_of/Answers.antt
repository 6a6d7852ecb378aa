use Rattle.std.proofs.Common.{◌≡◌, ◌≤◌, ◌<◌, ◌+◌, true, false, sym, ap, subst, ◌∙◌, arith}
use Rattle.std.proofs.lemmas.Bool.{false≢true}
use Rattle.book_history.specs.Versions.{VersionState}
use Rattle.book_history.specs.History.{state_of}
use Rattle.federation_book.specs.KeptProjects.{settings_of}
use Rattle.federation_book.proofs.Reading.{newest_is, live_place, placed}
use Rattle.federation_book.proofs.OneBucket.{work_then}
use Rattle.federation_book.proofs.working.work_of.Goals as goal

pub returns-then-number-eq0 : goal.returns-then-number-eq0
returns-then-number-eq0 c = λ b. absurd (let low = b.low in omega (arith, low))

pub returns-then-number-len : goal.returns-then-number-len
returns-then-number-len c = λ b. absurd (let high = b.high in omega (arith, high, c.args.state.now.projects.ok.0))

pub returns-then-not-is_live : goal.returns-then-not-is_live
returns-then-not-is_live c = λ b.
    let s = state_of c.args.number c.args.state.now.entries.items in
    let same = newest_is c.project-project.result.now s c.project-project.ensures in
    let made = b.made in
    let live = b.live in
    false≢true (sym c.if-not-is_live.true ∙ c.is_live.ensures.1 (omega (arith, same, made), omega (arith, same, live)))

pub place_of-requires-clause-made : goal.place_of-requires-clause-made
place_of-requires-clause-made c = (c.is_live.ensures.0 c.if-not-is_live.false).0

pub place_of-requires-clause-live : goal.place_of-requires-clause-live
place_of-requires-clause-live c =
    let there = c.is_live.ensures.0 c.if-not-is_live.false in
    live_place c.project-project.result.now (state_of c.args.number c.args.state.now.entries.items) c.args.version c.project-project.ensures there.0 there.1

pub index-requires : goal.index-requires
index-requires c =
    let p = c.project-project.result.now in
    let s = state_of c.args.number c.args.state.now.entries.items in
    let k = c.project-project.ensures in
    let there = c.is_live.ensures.0 c.if-not-is_live.false in
    let within = (placed p s c.args.version c.place_of.result k there.0 there.1 c.place_of.ensures).within in
    let all = p.live.ok.0 in
    omega (arith, within, all)

pub returns : goal.returns
returns c =
    let p = c.project-project.result.now in
    let h = c.args.state.now.entries.items in
    let s = state_of c.args.number h in
    let k = c.project-project.ensures in
    let there = c.is_live.ensures.0 c.if-not-is_live.false in
    let at = placed p s c.args.version c.place_of.result k there.0 there.1 c.place_of.ensures in
    work_then c.order_at.result (settings_of c.args.state.now) h c.args.number c.args.version c.args.cell p k
    (omega arith) (omega (arith, p.live.ok.0, c.args.state.now.projects.ok.0)) there
    (c.index.result.now) (c.index.ensures ∙ at.is c.index.result.now) c.order_at.ensures
