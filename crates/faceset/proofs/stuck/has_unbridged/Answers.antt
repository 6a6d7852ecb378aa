use Rattle.std.proofs.Common.{◌≡◌, true, false, List, Contains, filter_map, option_copied, sym, ◌∙◌, subst}
use Rattle.std.proofs.lemmas.Bool.{MatchBool-at_true, MatchBool-at_false}
use Rattle.p21_values.specs.declared.value.Value21.{Value21}
use Rattle.p21_values.specs.Values.{reference_of}
use Rattle.faceset.specs.FaceSets.{numbering}
use Rattle.faceset.proofs.Placed.{shown_numbers}
use Rattle.faceset.proofs.StuckFaces.{unbridged_told, unnamed_bridged}
use Rattle.faceset.proofs.stuck.has_unbridged.Goals as goal

pub returns-then-not-is_polygonal : goal.returns-then-not-is_polygonal
returns-then-not-is_polygonal c =
    unnamed_bridged c.args.exchange.now c.args.points.now c.args.set.now c.args.id (λ polygonal named. (let e : true ≡ false = sym polygonal ∙ (sym c.is_polygonal.ensures ∙ c.if-not-is_polygonal.true) in absurd (cc)))

pub returns-then-not-is_named : goal.returns-then-not-is_named
returns-then-not-is_named c =
    let none = MatchBool-at_false _ _ c.if-not-is_named.true c.is_named.ensures in
    unnamed_bridged c.args.exchange.now c.args.points.now c.args.set.now c.args.id (λ polygonal named. none (subst (λ (vs : List Value21). Contains (filter_map reference_of vs) c.args.id) (sym c.listed.ensures) named))

pub returns : goal.returns
returns c =
    let named = MatchBool-at_true _ _ c.if-not-is_named.false c.is_named.ensures in
    unbridged_told c.args.exchange.now c.args.points.now c.args.set.now c.args.id (option_copied c.as_deref.result) c.is_apart.result (sym c.is_polygonal.ensures ∙ c.if-not-is_polygonal.false)
    (shown_numbers c.in_ok-numbers.numbers c.as_deref.result (numbering c.args.set.now) c.in_ok-numbers.ensures c.as_deref.ensures.cases)
    (subst (λ (vs : List Value21). Contains (filter_map reference_of vs) c.args.id) c.listed.ensures named) c.is_apart.ensures
