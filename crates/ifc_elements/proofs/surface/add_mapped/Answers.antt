use Rattle.std.proofs.Common.{List, All, ◌++◌, map, sym, ap, ◌∙◌, subst}
use Rattle.std.proofs.lemmas.Bool.{MatchBool-at_true, MatchBool-at_false}
use Rattle.bim_model.specs.declared.geometry.Triangle.{Triangle}
use Rattle.ifc_elements.specs.Surfaces.{moved}
use Rattle.ifc_elements.specs.Sound.{ReadySet}
use Rattle.ifc_elements.proofs.TrianglesAdded.{mapped_added, unframed}
use Rattle.ifc_elements.proofs.surface.add_mapped.Goals as goal

pub returns-in_default-operator_frame : goal.returns-in_default-operator_frame
returns-in_default-operator_frame c = λ listed are.
    unframed c.args.exchange.now c.args.scale c.args.mode listed c.args.item.now c.in-Some.operator (sym c.in-Some.ensures) c.in_default-operator_frame.ensures.frame

pub returns-then-not-added : goal.returns-then-not-added
returns-then-not-added c = λ listed are ready.
    MatchBool-at_false _ _ c.if-not-added.true (c.in_ok-added.ensures.added c.args.scale c.args.mode listed are)
    (subst (All (ReadySet c.args.exchange.now listed)) (sym c.spelled_sets.ensures) ready.sets)

pub returns : goal.returns
returns c = λ listed are.
    let frame = c.in-Some-operator_frame.frame in
    mapped_added c.args.exchange.now c.args.scale c.args.mode c.args.item.now c.in-Some.operator frame c.spelled_sets.result c.new-own.result.items c.add_sets.new.out.items c.args.out.now.items c.add_carried.new.out.items
    (sym c.in-Some.ensures) c.in-Some-operator_frame.ensures.frame c.spelled_sets.ensures c.new-own.ensures.items
    (MatchBool-at_true _ _ c.if-not-added.false (c.in_ok-added.ensures.added c.args.scale c.args.mode listed are))
    (c.in_ok-add_carried.ensures ∙ ap (λ (ts : List Triangle). c.args.out.now.items ++ map (moved frame) ts) c.deref.ensures.value)
