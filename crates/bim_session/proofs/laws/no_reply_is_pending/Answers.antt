use Rattle.bim_session.proofs.Pending.{none_pending}
use Rattle.bim_session.proofs.laws.no_reply_is_pending.Goals as goal

pub returns : goal.returns
returns c = none_pending
