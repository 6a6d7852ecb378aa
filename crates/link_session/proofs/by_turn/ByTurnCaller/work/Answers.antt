use Rattle.link_session.proofs.Passes.{works_by_pass}
use Rattle.book_passes.specs.Lessons.{caller_of}
use Rattle.link_session.proofs.by_turn.ByTurnCaller.work.Goals as goal

pub returns-clause-works : goal.returns-clause-works
returns-clause-works g c = works_by_pass c.args.self.now.turn.now.settings (caller_of c.args.own.now) c.requires.fits.alone
