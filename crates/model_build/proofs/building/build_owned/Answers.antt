use Rattle.model_build.proofs.ProfileOfStages.{profile_ok, profile_err, read_cause}
use Rattle.model_build.proofs.building.build_owned.Goals as goal

pub returns-in-Ok-clause-model : goal.returns-in-Ok-clause-model
returns-in-Ok-clause-model c = profile_ok c.args.bytes c.args.mode c.in-Ok.exchange c.build_exchange.result c.in-Ok.ensures.exchange c.build_exchange.ensures.model

pub returns-in-Ok-clause-fault : goal.returns-in-Ok-clause-fault
returns-in-Ok-clause-fault c = profile_err c.args.bytes c.args.mode c.in-Ok.exchange c.build_exchange.result c.in-Ok.ensures.exchange c.build_exchange.ensures.fault

pub returns-in-Err-clause-fault : goal.returns-in-Err-clause-fault
returns-in-Err-clause-fault c = read_cause c.args.bytes c.args.mode c.in-Err.error c.in-Err.ensures.fault
