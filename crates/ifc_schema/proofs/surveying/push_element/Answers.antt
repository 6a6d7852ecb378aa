use Rattle.std.proofs.Common.{◌≡◌, ◌<◌, ◌++◌, ◌∷◌, [], false, true, get_or, sym, ◌∙◌}
use Rattle.std.proofs.lemmas.Option.{get_or_from_slice_get}
use Rattle.ifc_schema.specs.Surveys.{IsModelElement, is_model_element}
use Rattle.ifc_schema.proofs.BodyBits.{bits_within, bit_there}
use Rattle.ifc_schema.specs.InstanceMarks.{is_seen, rank_at}
use Rattle.ifc_schema.proofs.Listing.{lists_same, unseen_there, seen_there, push_there, element_used, no_element, element_there}
use Rattle.ifc_schema.proofs.surveying.push_element.Goals as goal

pub returns-then-not-is_seen : goal.returns-then-not-is_seen
returns-then-not-is_seen c =
    let world = c.args.exchange.now in
    let work = c.args.work.now in
    let m = c.index.result.now in
    let s : is_seen m ≡ false = sym c.is_seen.ensures ∙ c.if-not-is_seen.true in
    lists_same world c.args.at (IsModelElement world) c.args.ids.now.items
    (λ id p h. unseen_there world work c.args.at m c.requires.known c.requires.within c.index.ensures s id p (element_used world id h)) c.requires.ids

pub bounds-bodied-at : goal.bounds-bodied-at
bounds-bodied-at c = bits_within c.args.exchange.now c.args.bodied.now c.args.at c.requires.bodied c.requires.within

pub is_model_element-requires : goal.is_model_element-requires
is_model_element-requires c = record { bodied = bit_there c.args.exchange.now c.args.bodied.now c.args.at false c.instance.result c.requires.bodied c.requires.within c.instance.ensures }

pub returns-then-not-is_model_element : goal.returns-then-not-is_model_element
returns-then-not-is_model_element c =
    let world = c.args.exchange.now in
    let i = c.instance.result in
    let e : i ≡ get_or world c.args.at i = sym (get_or_from_slice_get world c.args.at i i c.instance.ensures) in
    let t : c.is_model_element.result ≡ is_model_element world i = c.is_model_element.ensures in
    lists_same world c.args.at (IsModelElement world) c.args.ids.now.items (no_element world c.args.at i e (sym t ∙ c.if-not-is_model_element.true)) c.requires.ids

pub returns : goal.returns
returns c =
    let world = c.args.exchange.now in
    let work = c.args.work.now in
    let m = c.index.result.now in
    let s : is_seen m ≡ true = sym c.is_seen.ensures ∙ c.if-not-is_seen.false in
    let r : 0 < rank_at work c.args.at = seen_there world work c.args.at m c.requires.known c.requires.within c.index.ensures s in
    let u = (c.requires.known.sound c.args.at).used r in
    let i = c.instance.result in
    let e : i ≡ get_or world c.args.at i = sym (get_or_from_slice_get world c.args.at i i c.instance.ensures) in
    let t : c.is_model_element.result ≡ is_model_element world i = c.is_model_element.ensures in
    let h = element_there world u.id c.args.at i u.place e (sym t ∙ c.if-not-is_model_element.false) in
    let j = c.instance-2.result in
    let f : j ≡ get_or world c.args.at j = sym (get_or_from_slice_get world c.args.at j j c.instance-2.ensures) in
    let n : c.push.new.self.items ≡ c.args.ids.now.items ++ j.id ∷ [] = cc (c.in_ok-push.ensures.items, c.id-id.ensures) in
    push_there world c.args.at j u.id (IsModelElement world) c.args.ids.now.items c.push.new.self.items c.requires.rises u.place f h c.requires.ids n
