use Rattle.std.proofs.Common.{◌≡◌, ◌<◌, ◌++◌, ◌∷◌, [], false, true, get_or, sym, ◌∙◌}
use Rattle.std.proofs.lemmas.Option.{get_or_from_slice_get}
use Rattle.ifc_schema.specs.Used.{Used}
use Rattle.ifc_schema.specs.InstanceMarks.{is_seen, rank_at}
use Rattle.ifc_schema.proofs.Listing.{lists_same, unseen_there, seen_there, push_there}
use Rattle.ifc_schema.proofs.surveying.push_used.Goals as goal

pub returns-then-not-is_seen : goal.returns-then-not-is_seen
returns-then-not-is_seen c =
    let world = c.args.exchange.now in
    let work = c.args.work.now in
    let m = c.index.result.now in
    let s : is_seen m ≡ false = sym c.is_seen.ensures ∙ c.if-not-is_seen.true in
    lists_same world c.args.at (Used world) c.args.ids.now.items (unseen_there world work c.args.at m c.requires.known c.requires.within c.index.ensures s) c.requires.ids

pub returns : goal.returns
returns c =
    let world = c.args.exchange.now in
    let work = c.args.work.now in
    let m = c.index.result.now in
    let s : is_seen m ≡ true = sym c.is_seen.ensures ∙ c.if-not-is_seen.false in
    let r : 0 < rank_at work c.args.at = seen_there world work c.args.at m c.requires.known c.requires.within c.index.ensures s in
    let u = (c.requires.known.sound c.args.at).used r in
    let i = c.instance.result in
    let e : i ≡ get_or world c.args.at i = sym (get_or_from_slice_get world c.args.at i i c.instance.ensures) in
    let n : c.push.new.self.items ≡ c.args.ids.now.items ++ i.id ∷ [] = cc (c.in_ok-push.ensures.items, c.id-id.ensures) in
    push_there world c.args.at i u.id (Used world) c.args.ids.now.items c.push.new.self.items c.requires.rises u.place e u.used c.requires.ids n
