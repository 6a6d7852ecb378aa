use Rattle.bucket_check.proofs.Tested.{met_then, met_else}
use Rattle.bucket_check.proofs.narrow_phase.rule_if_met.Goals as goal

pub returns-then-meet-clause-rule : goal.returns-then-meet-clause-rule
returns-then-meet-clause-rule g c = met_then c.args.found c.args.a.now c.args.b.now c.meet.result c.meet.ensures.is c.if-meet.true

pub returns-else-meet-clause-rule : goal.returns-else-meet-clause-rule
returns-else-meet-clause-rule g c = met_else c.args.found c.args.a.now c.args.b.now c.meet.result c.meet.ensures.is c.if-meet.false
