use Rattle.model_build.proofs.ProfileOfStages.{same_ok, same_err}
use Rattle.model_build.proofs.stages.build_file.Goals as goal

pub returns-in-Ok-clause-model : goal.returns-in-Ok-clause-model
returns-in-Ok-clause-model c = same_ok c.args.exchange c.in-Ok.file.exchange c.args.mode c.in-Ok.file.mode c.checked.result c.in-Ok.ensures.same.0 c.in-Ok.ensures.same.1 c.checked.ensures.model

pub returns-in-Ok-clause-fault : goal.returns-in-Ok-clause-fault
returns-in-Ok-clause-fault c = same_err c.args.exchange c.in-Ok.file.exchange c.args.mode c.in-Ok.file.mode c.checked.result c.in-Ok.ensures.same.0 c.in-Ok.ensures.same.1 c.checked.ensures.fault
