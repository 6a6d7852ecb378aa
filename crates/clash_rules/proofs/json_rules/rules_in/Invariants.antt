use Rattle.std.proofs.Common.{◌≡◌, All, length, drop}
use Rattle.serde_json.specs.View.{items_view}
use Rattle.bim_model.specs.Rules.{IsRule}
use Rattle.clash_rules.specs.Json.{rules_from}
use Rattle.clash_rules.proofs.Loops.{front}
use Rattle.clash_rules.proofs.json_rules.rules_in.Given as goal

abbrev pub invariant-loop-index : goal.invariant-loop-index
invariant-loop-index l = record {
  read : front l.rules.items (rules_from l.index (items_view (drop l.index l.items))) ≡ rules_from 0 (items_view l.items);
  good : All IsRule l.rules.items;
  count : length l.rules.items ≡ l.index;
}
