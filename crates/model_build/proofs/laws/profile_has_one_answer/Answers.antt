use Rattle.model_build.proofs.OneAnswer.{one_answer}
use Rattle.model_build.proofs.laws.profile_has_one_answer.Goals as goal

pub returns : goal.returns
returns c = one_answer
