use Rattle.std.proofs.Common.{◌≡◌, ◌≤◌, length, drop}
use Rattle.bim_model.specs.Rules.{rule_from, rule_of}
use Rattle.bim_model.specs.declared.limits.TheConstants.{MOST_RULES}
use Rattle.bim_model.proofs.rules.rule_of.Given as goal

abbrev pub invariant-loop-rule : goal.invariant-loop-rule
invariant-loop-rule l = record {
  number : l.number ≡ l.rule-index;
  few : length l.list ≤ MOST_RULES;
  rest : rule_from l.number (drop l.rule-index l.list) l.a l.b l.same_model ≡ rule_of l.rules l.a l.b l.same_model;
}
