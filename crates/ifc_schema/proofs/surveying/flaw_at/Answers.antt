use Rattle.std.proofs.Common.{◌≡◌, ◌<◌, false, length, get_or, sym, ap, ◌∙◌, arith}
use Rattle.std.proofs.lemmas.Option.{get_or_from_slice_get}
use Rattle.ifc_schema.specs.InstanceMarks.{is_mapped, mark_at}
use Rattle.ifc_schema.proofs.Following.{flag_there, marked_within}
use Rattle.ifc_schema.proofs.BodyBits.{bits_within, bit_there}
use Rattle.ifc_schema.proofs.Listing.{used_flaw}
use Rattle.ifc_schema.proofs.surveying.flaw_at.Goals as goal

pub bounds-bodied-at : goal.bounds-bodied-at
bounds-bodied-at c =
    let world = c.args.exchange.now in
    let lt : c.args.at < length world = (let m = marked_within c.args.work.now.marks.items c.args.at c.requires.marked in let s = c.requires.known.size in omega arith) in
    bits_within world c.args.bodied.now c.args.at c.requires.bodied lt

pub instance_flaw-requires : goal.instance_flaw-requires
instance_flaw-requires c =
    let world = c.args.exchange.now in
    let lt : c.args.at < length world = (let m = marked_within c.args.work.now.marks.items c.args.at c.requires.marked in let s = c.requires.known.size in omega arith) in
    record { bodied = bit_there world c.args.bodied.now c.args.at false c.instance-instance.result c.requires.bodied lt c.instance-instance.ensures }

pub returns : goal.returns
returns c = λ id p.
    let world = c.args.exchange.now in
    let i = c.instance-instance.result in
    let e : i ≡ get_or world c.args.at i = sym (get_or_from_slice_get world c.args.at i i c.instance-instance.ensures) in
    let b : c.is_mapped-mapped.result ≡ is_mapped (mark_at c.args.work.now c.args.at) =
    c.is_mapped-mapped.ensures ∙ (ap is_mapped c.index.ensures ∙ flag_there c.args.work.now c.args.at c.requires.marked c.index.result.now) in
    used_flaw world c.args.work.now id c.args.at i c.is_mapped-mapped.result c.instance_flaw.result c.requires.known p e b c.instance_flaw.ensures
