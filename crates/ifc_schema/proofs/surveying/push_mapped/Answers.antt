use Rattle.std.proofs.Common.{◌≡◌, ◌<◌, ◌++◌, ◌∷◌, [], false, true, get_or, sym, ◌∙◌}
use Rattle.std.proofs.lemmas.Option.{get_or_from_slice_get}
use Rattle.ifc_schema.specs.Used.{IsMapped}
use Rattle.ifc_schema.specs.InstanceMarks.{is_mapped, rank_at}
use Rattle.ifc_schema.proofs.Listing.{lists_same, unmapped_there, mapped_there, push_there}
use Rattle.ifc_schema.proofs.surveying.push_mapped.Goals as goal

pub returns-then-not-is_mapped : goal.returns-then-not-is_mapped
returns-then-not-is_mapped c =
    let world = c.args.exchange.now in
    let work = c.args.work.now in
    let m = c.index.result.now in
    let s : is_mapped m ≡ false = sym c.is_mapped.ensures ∙ c.if-not-is_mapped.true in
    lists_same world c.args.at (IsMapped world) c.args.ids.now.items (unmapped_there world work c.args.at m c.requires.known c.requires.within c.index.ensures s) c.requires.ids

pub returns : goal.returns
returns c =
    let world = c.args.exchange.now in
    let work = c.args.work.now in
    let m = c.index.result.now in
    let s : is_mapped m ≡ true = sym c.is_mapped.ensures ∙ c.if-not-is_mapped.false in
    let r : 1 < rank_at work c.args.at = mapped_there world work c.args.at m c.requires.known c.requires.within c.index.ensures s in
    let u = (c.requires.known.sound c.args.at).mapped r in
    let i = c.instance.result in
    let e : i ≡ get_or world c.args.at i = sym (get_or_from_slice_get world c.args.at i i c.instance.ensures) in
    let n : c.push.new.self.items ≡ c.args.ids.now.items ++ i.id ∷ [] = cc (c.in_ok-push.ensures.items, c.id-id.ensures) in
    push_there world c.args.at i u.id (IsMapped world) c.args.ids.now.items c.push.new.self.items c.requires.rises u.place e u.mapped c.requires.ids n
