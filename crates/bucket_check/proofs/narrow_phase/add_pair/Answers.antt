use Rattle.bucket_check.proofs.Tested.{none_added, some_added}
use Rattle.bucket_check.proofs.narrow_phase.add_pair.Goals as goal

pub returns-in-None-clause-pairs : goal.returns-in-None-clause-pairs
returns-in-None-clause-pairs g c = none_added c.args.pairs.now.items c.args.first c.args.second _ c.in-None.ensures.rule

pub returns-in_ok-push-in-Some-clause-pairs : goal.returns-in_ok-push-in-Some-clause-pairs
returns-in_ok-push-in-Some-clause-pairs g c = some_added _ _ c.args.first c.args.second c.in-Some.rule _ c.in_ok-push-in-Some.ensures.items c.in-Some.ensures.rule
