use Rattle.std.proofs.Common.{◌≡◌, take}
use Rattle.serde_json.specs.View.{items_view}
use Rattle.coord_json.specs.RuleTrees.{rule_items}
use Rattle.coord_json.proofs.rule_values.rules_out.Given as goal

abbrev pub invariant-loop-rule : goal.invariant-loop-rule
invariant-loop-rule l = items_view l.trees.items ≡ rule_items (take l.rule-index l.rules)
