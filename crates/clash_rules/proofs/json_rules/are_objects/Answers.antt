use Rattle.std.proofs.Common.{sym, ap, ◌∙◌, arith}
use Rattle.std.proofs.lemmas.List.{drop_all}
use Rattle.serde_json.specs.View.{items_view}
use Rattle.clash_rules.specs.Json.{are_objects}
use Rattle.clash_rules.proofs.Loops.{object_there, object_missing}
use Rattle.clash_rules.proofs.json_rules.are_objects.Goals as goal

-- one more value is an object
pub loop-item-preserved : goal.loop-item-preserved
loop-item-preserved c =
    let l = c.loop-item in
    object_there c.args.items.now l.item-index c.item-item.result _ c.loop-item-test.true c.item-item.is (sym c.is_object.ensures ∙ c.if-not-is_object.false) l.invariant

-- a value isn't
pub returns-then-not-is_object : goal.returns-then-not-is_object
returns-then-not-is_object c =
    let l = c.loop-item in
    object_missing c.args.items.now l.item-index c.item-item.result _ c.loop-item-test.true c.item-item.is (sym c.is_object.ensures ∙ c.if-not-is_object.true) l.invariant

pub returns : goal.returns
returns c =
    sym (ap (λ l. are_objects (items_view l)) (drop_all c.loop-item.item-index c.args.items.now (omega arith)))
    ∙ c.loop-item.invariant
