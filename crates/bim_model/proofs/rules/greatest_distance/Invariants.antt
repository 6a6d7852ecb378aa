use Rattle.std.proofs.Common.{◌≡◌, ◌≤◌, max, drop, All}
use Rattle.bim_model.specs.Rules.{greatest_distance, IsRule}
use Rattle.bim_model.specs.declared.limits.TheConstants.{MOST_DISTANCE}
use Rattle.bim_model.proofs.rules.greatest_distance.Given as goal

abbrev pub invariant-loop-rule : goal.invariant-loop-rule
invariant-loop-rule l = record {
  rest : max l.greatest (greatest_distance (drop l.rule-index l.rule-items)) ≡ greatest_distance l.rules;
  small : l.greatest ≤ MOST_DISTANCE;
  near : All IsRule l.rule-items;
}
