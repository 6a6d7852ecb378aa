use Rattle.model_build.proofs.OneAnswer.{one_model, one_file_fault}
use Rattle.model_build.proofs.laws.instances_have_one_answer.Goals as goal

pub returns : goal.returns
returns c = record { model = one_model; fault = one_file_fault }
