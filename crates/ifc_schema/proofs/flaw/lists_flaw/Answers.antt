use Rattle.std.proofs.Common.{List, Option, None, refl, sym, subst, ◌∙◌}
use Rattle.p21_values.specs.declared.value.Value21.{Value21}
use Rattle.ifc_schema.specs.declared.flaw.Flaw.{Flaw}
use Rattle.ifc_schema.specs.Flaws.{LeafFlaw, ListFlaw}
use Rattle.ifc_schema.specs.inner.SoundValues.{IsSound, Passes}
use Rattle.ifc_schema.proofs.Firsts.{no_flaw}
use Rattle.ifc_schema.proofs.SoundRows.{passes_more, passes_on, passes_weaker, flawed_behind}
use Rattle.ifc_schema.proofs.flaw.lists_flaw.Goals as goal

pub loop-row-init : goal.loop-row-init
loop-row-init c =
    let world = c.args.exchange.now in
    let R : Value21 → Option Flaw → Type 0 = ListFlaw c.args.inner (LeafFlaw world c.args.leaf) in
    let left = c.past_sound-left.result in
    subst (λ (xs : List Value21). Passes (λ v. R v None) xs left) c.iter.ensures (passes_weaker (IsSound c.args.inner c.args.leaf) (λ v. R v None) c.iter.result left (λ v h. h world) c.past_sound-left.ensures)

pub returns-then-is_some : goal.returns-then-is_some
returns-then-is_some c =
    flawed_behind (ListFlaw c.args.inner (LeafFlaw c.args.exchange.now c.args.leaf)) c.args.rows.now c.loop-row.left c.next.new.self c.in-Some.row c.list_flaw-flaw.result c.loop-row.invariant c.in-Some.ensures.steps
    (sym c.is_some.ensures ∙ c.if-is_some.true) c.list_flaw-flaw.ensures

pub loop-row-preserved : goal.loop-row-preserved
loop-row-preserved c =
    let world = c.args.exchange.now in
    let R : Value21 → Option Flaw → Type 0 = ListFlaw c.args.inner (LeafFlaw world c.args.leaf) in
    let next = c.next.new.self in
    let none = no_flaw R c.in-Some.row c.in-Some.row c.list_flaw-flaw.result refl (sym c.is_some.ensures ∙ c.if-is_some.false) c.list_flaw-flaw.ensures in
    passes_on (λ v. R v None) c.args.rows.now next c.past_sound-left-in-Some.result
    (passes_more (λ v. R v None) c.args.rows.now c.loop-row.left next c.in-Some.row c.loop-row.invariant c.in-Some.ensures.steps none)
    (passes_weaker (IsSound c.args.inner c.args.leaf) (λ v. R v None) next c.past_sound-left-in-Some.result (λ v h. h world) c.past_sound-left-in-Some.ensures)
