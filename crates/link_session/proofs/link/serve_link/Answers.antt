use Rattle.link_session.proofs.Passes.{laws_by_pass}
use Rattle.link_session.proofs.link.serve_link.Goals as goal

pub run_session-requires-clause-laws : goal.run_session-requires-clause-laws
run_session-requires-clause-laws g c = laws_by_pass
