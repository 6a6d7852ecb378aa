use Rattle.std.proofs.Common.{◌≡◌, ◌<◌, false, length, get_or, sym, ap, ◌∙◌, subst, arith}
use Rattle.std.proofs.lemmas.Option.{get_or_from_slice_get}
use Rattle.ifc_schema.specs.Used.{Names}
use Rattle.ifc_schema.specs.InstanceMarks.{is_mapped, mark_at, IsFollowed}
use Rattle.ifc_schema.proofs.Results.{on_ok}
use Rattle.ifc_schema.proofs.Following.{names_used, any_names, maps_names, maps_mapped, flag_there, marked_within}
use Rattle.ifc_schema.proofs.BodyBits.{bits_within, bit_there}
use Rattle.ifc_schema.proofs.visit.visit.Goals as goal

pub bounds-bodied-at : goal.bounds-bodied-at
bounds-bodied-at c =
    let world = c.args.exchange.now in
    let lt : c.args.at < length world = (let m = marked_within c.args.work.now.marks.items c.args.at c.requires.marked in let s = c.requires.size in omega arith) in
    bits_within world c.args.bodied.now c.args.at c.requires.bodied lt

pub follow-requires-clause-bodied : goal.follow-requires-clause-bodied
follow-requires-clause-bodied c =
    let world = c.args.exchange.now in
    let lt : c.args.at < length world = (let m = marked_within c.args.work.now.marks.items c.args.at c.requires.marked in let s = c.requires.size in omega arith) in
    bit_there world c.args.bodied.now c.args.at false c.instance.result c.requires.bodied lt c.instance.ensures

pub follow-requires-clause-names : goal.follow-requires-clause-names
follow-requires-clause-names c = λ to a.
    let world = c.args.exchange.now in
    let i = c.instance.result in
    let e : i ≡ get_or world c.args.at i = sym (get_or_from_slice_get world c.args.at i i c.instance.ensures) in
    let b : c.is_mapped-mapped.result ≡ is_mapped (mark_at c.args.work.now c.args.at) = c.is_mapped-mapped.ensures ∙ (ap is_mapped c.index.ensures ∙ flag_there c.args.work.now c.args.at c.requires.marked c.index.result.now) in
    names_used world c.args.at (mark_at c.args.work.now c.args.at) i c.requires.sound c.requires.marked e to (subst (λ m. Names world m i to) b (any_names world c.is_mapped-mapped.result i to a))

pub follow-requires-clause-used : goal.follow-requires-clause-used
follow-requires-clause-used c = λ to h.
    let world = c.args.exchange.now in
    let i = c.instance.result in
    let e : i ≡ get_or world c.args.at i = sym (get_or_from_slice_get world c.args.at i i c.instance.ensures) in
    names_used world c.args.at (mark_at c.args.work.now c.args.at) i c.requires.sound c.requires.marked e to (maps_names world (is_mapped (mark_at c.args.work.now c.args.at)) i to h)

pub follow-requires-clause-mapped : goal.follow-requires-clause-mapped
follow-requires-clause-mapped c = λ to h.
    let world = c.args.exchange.now in
    let i = c.instance.result in
    let e : i ≡ get_or world c.args.at i = sym (get_or_from_slice_get world c.args.at i i c.instance.ensures) in
    maps_mapped world c.args.at (mark_at c.args.work.now c.args.at) i c.requires.sound c.requires.marked e to h

pub returns-clause-followed : goal.returns-clause-followed
returns-clause-followed c = on_ok c.follow.result (λ f j t.
    let world = c.args.exchange.now in
    let i = c.instance.result in
    let e : i ≡ get_or world c.args.at i = sym (get_or_from_slice_get world c.args.at i i c.instance.ensures) in
    let s : i ≡ j = e ∙ get_or_from_slice_get world c.args.at j i t in
    let b : c.is_mapped-mapped.result ≡ is_mapped (mark_at c.args.work.now c.args.at) = c.is_mapped-mapped.ensures ∙ (ap is_mapped c.index.ensures ∙ flag_there c.args.work.now c.args.at c.requires.marked c.index.result.now) in
    subst (λ m. IsFollowed world c.follow.new.work m j) b (subst (λ k. IsFollowed world c.follow.new.work c.is_mapped-mapped.result k) s f)) c.follow.ensures.followed
