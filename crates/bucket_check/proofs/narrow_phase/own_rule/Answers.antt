use Rattle.std.proofs.Common.{◌∙◌}
use Rattle.bucket_check.proofs.Tested.{owned, of_another}
use Rattle.bucket_check.proofs.narrow_phase.own_rule.Goals as goal

pub returns-then-owns-clause-rule : goal.returns-then-owns-clause-rule
returns-then-owns-clause-rule g c = c.clash_of.ensures.rule ∙ owned c.owns.result _ _ c.owns.ensures c.if-owns.true

pub returns-else-owns-clause-rule : goal.returns-else-owns-clause-rule
returns-else-owns-clause-rule g c = of_another c.owns.result _ _ c.owns.ensures c.if-owns.false
