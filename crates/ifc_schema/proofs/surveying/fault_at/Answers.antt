use Rattle.std.proofs.Common.{◌≡◌, ◌<◌, ℕ, true, get_or, sym, ◌∙◌, subst}
use Rattle.std.proofs.lemmas.Option.{get_or_from_slice_get}
use Rattle.p21_values.specs.InstancePlaces.{IsPlaceOf}
use Rattle.ifc_schema.specs.InstanceMarks.{is_seen, rank_at}
use Rattle.ifc_schema.specs.Surveys.{UsedFlaw, fault_of}
use Rattle.ifc_schema.proofs.Listing.{seen_there, fault_there}
use Rattle.ifc_schema.proofs.surveying.fault_at.Goals as goal

pub returns-in-Some : goal.returns-in-Some
returns-in-Some c =
    let world = c.args.exchange.now in
    let work = c.args.work.now in
    let m = c.index.result.now in
    let s : is_seen m ≡ true = sym c.is_seen.ensures ∙ c.if-not-is_seen.false in
    let r : 0 < rank_at work c.args.at = seen_there world work c.args.at m c.requires.known c.requires.within c.index.ensures s in
    let i = c.instance.result in
    let e : i ≡ get_or world c.args.at i = sym (get_or_from_slice_get world c.args.at i i c.instance.ensures) in
    let f : (id : ℕ) → IsPlaceOf world id c.args.at → UsedFlaw world id c.flaw_at-flaw.result = c.flaw_at-flaw.ensures in
    let t : c.fault_of-fault.result ≡ fault_of i.id c.in-Some.flaw = cc (c.fault_of-fault.ensures, c.id.ensures) in
    fault_there world work c.args.at i c.in-Some.flaw c.fault_of-fault.result c.requires.known r e (λ id p. subst (UsedFlaw world id) c.in-Some.is (f id p)) t
