use Rattle.bim_session.proofs.Talks.{own_some, some_none}
use Rattle.bim_session.proofs.talk.Talk.leave.Goals as goal

pub invariant_of-self : goal.invariant_of-self
invariant_of-self c = (c.self.invariant.0, λ e. absurd (some_none c.args.end e), own_some c.args.end c.requires.own)
