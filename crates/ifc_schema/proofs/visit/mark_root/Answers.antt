use Rattle.std.proofs.Common.{◌≡◌, ℕ, Bool, true, false, get_or, sym, ap, ◌∙◌}
use Rattle.std.specs.Bool.{OnTrue, OnFalse}
use Rattle.std.proofs.lemmas.Option.{get_or_from_slice_get}
use Rattle.p21_values.specs.declared.value.Instance.{Instance}
use Rattle.ifc_schema.specs.declared.worklist.Mark.TheVariants.{Used as Met}
use Rattle.ifc_schema.specs.Used.{is_root}
use Rattle.ifc_instances.specs.EntityLookup.{entity_at}
use Rattle.p21_values.specs.InstancePlaces.{IsPlaceOf}
use Rattle.ifc_schema.proofs.Results.{on_ok2}
use Rattle.ifc_schema.proofs.Growing.{raise_grows}
use Rattle.ifc_schema.proofs.Following.{no_root, root_sound}
use Rattle.ifc_schema.proofs.visit.mark_root.Goals as goal

on_false : (b : Bool) {P : Type 0} → b ≡ false → OnFalse b P → P
on_false true h p = cc
on_false false h p = p

on_true : (b : Bool) {P : Type 0} → b ≡ true → OnTrue b P → P
on_true true h p = p
on_true false h p = cc

pub returns-then-not-is_root-clause-root : goal.returns-then-not-is_root-clause-root
returns-then-not-is_root-clause-root c = λ r.
    let i = c.instance.result in
    let e : i ≡ get_or c.args.exchange.now c.args.at i = sym (get_or_from_slice_get c.args.exchange.now c.args.at i i c.instance.ensures) in
    let f : is_root (entity_at i) ≡ false = ap is_root (sym c.at.ensures) ∙ (sym c.is_root.ensures ∙ c.if-not-is_root.true) in
    absurd (no_root c.args.exchange.now c.args.at i e f r)

pub returns-then-not-is_first-clause-root : goal.returns-then-not-is_first-clause-root
returns-then-not-is_first-clause-root c = λ r.
    let other : (id : ℕ) → IsPlaceOf c.args.exchange.now id c.args.at → ⊥ = on_false c.is_first.result c.if-not-is_first.true c.is_first.ensures.other in
    absurd (other r.id r.place)

pub returns-clause-grows : goal.returns-clause-grows
returns-clause-grows c =
    let i = c.instance.result in
    let e : i ≡ get_or c.args.exchange.now c.args.at i = sym (get_or_from_slice_get c.args.exchange.now c.args.at i i c.instance.ensures) in
    let t : is_root (entity_at i) ≡ true = ap is_root (sym c.at.ensures) ∙ (sym c.is_root.ensures ∙ c.if-not-is_root.false) in
    let first : (j : Instance) → IsPlaceOf c.args.exchange.now (get_or c.args.exchange.now c.args.at j).id c.args.at =
    on_true c.is_first.result c.if-not-is_first.false c.is_first.ensures.first in
    let p : IsPlaceOf c.args.exchange.now i.id c.args.at = rw e (first i) in
    on_ok2 c.raise.result (λ m k. (raise_grows c.args.exchange.now c.args.work.now c.raise.new.self c.args.at Met (rw c.requires.size c.requires.within)
    (root_sound c.args.exchange.now c.args.at i p e t) m k).grows) c.raise.ensures.marks c.raise.ensures.stack
