use Rattle.bcf_http.proofs.OneListRequest.{one_answer}
use Rattle.bcf_http.proofs.laws.list_requests_have_one_answer.Goals as goal

pub returns : goal.returns
returns c asked bad_turn r s d e = one_answer asked bad_turn r s d e
