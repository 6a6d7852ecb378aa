use Rattle.model_build.proofs.ModelOfWalk.{found_walked}
use Rattle.model_build.proofs.building.build_exchange.Goals as goal

pub model_of_walked-requires : goal.model_of_walked-requires
model_of_walked-requires c = (c.args.exchange, c.args.mode, found_walked c.args.exchange c.args.mode c.in_ok-walked.field-0 c.in-Some.walked c.in-Some.is c.in_ok-walked.ensures)

pub returns-in_ok-model_of_walked-in-Some-clause-model : goal.returns-in_ok-model_of_walked-in-Some-clause-model
returns-in_ok-model_of_walked-in-Some-clause-model c =
    c.in_ok-model_of_walked-in-Some.ensures c.args.exchange c.args.mode (found_walked c.args.exchange c.args.mode c.in_ok-walked.field-0 c.in-Some.walked c.in-Some.is c.in_ok-walked.ensures)
