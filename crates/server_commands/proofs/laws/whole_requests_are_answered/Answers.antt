use Rattle.server_commands.proofs.WholeRequests.{whole_answered}
use Rattle.server_commands.proofs.laws.whole_requests_are_answered.Goals as goal

pub returns : goal.returns
returns c = whole_answered
