use Rattle.p21_reader.proofs.OneAnswer.{one_exchange, refused, one_fault}
use Rattle.p21_reader.proofs.law.uploads_have_one_answer.Goals as goal

pub returns : goal.returns
returns c = record { one = one_exchange; refused = refused; fault = one_fault }
