use Rattle.std.proofs.Common.{◌≡◌, ◌<◌, true, sym, ap, ◌∙◌, subst}
use Rattle.ifc_schema.specs.InstanceMarks.{is_seen, is_mapped, mark_at, rank_at}
use Rattle.ifc_schema.proofs.Following.{flag_there}
use Rattle.ifc_schema.proofs.Listing.{seen_there, unseen_there}
use Rattle.model_walk.proofs.PlacesChecked.{looked_there}
use Rattle.model_walk.proofs.walking.check_at.Goals as goal

pub look_at-requires-clause-list : goal.look_at-requires-clause-list
look_at-requires-clause-list c = λ k e h.
    let work = c.args.work.now in
    let m = c.index-mark.result.now in
    let r : 0 < rank_at work c.args.at = seen_there c.args.exchange.now work c.args.at m c.requires.known c.requires.within c.index-mark.ensures (sym c.is_seen.ensures ∙ c.if-not-is_seen.false) in
    c.requires.lists k (subst (λ n. 0 < rank_at work n) (sym e) r) h

pub returns-then-not-is_seen-clause-clean : goal.returns-then-not-is_seen-clause-clean
returns-then-not-is_seen-clause-clean c = λ id p u.
    absurd (unseen_there c.args.exchange.now c.args.work.now c.args.at c.index-mark.result.now c.requires.known c.requires.within c.index-mark.ensures (sym c.is_seen.ensures ∙ c.if-not-is_seen.true) id p u)

pub returns-clause-clean : goal.returns-clause-clean
returns-clause-clean c =
    let world = c.args.exchange.now in
    let work = c.args.work.now in
    let m = c.index-mark.result.now in
    let r : 0 < rank_at work c.args.at = seen_there world work c.args.at m c.requires.known c.requires.within c.index-mark.ensures (sym c.is_seen.ensures ∙ c.if-not-is_seen.false) in
    let b : c.is_mapped-mapped.result ≡ is_mapped (mark_at work c.args.at) = c.is_mapped-mapped.ensures ∙ (ap is_mapped c.index-mark.ensures ∙ flag_there work c.args.at r m) in
    looked_there c.look_at.result world c.args.scale c.args.mode work c.args.at c.is_mapped-mapped.result c.requires.known b c.look_at.ensures.clean
