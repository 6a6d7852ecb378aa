use Rattle.book_passes.specs.Lessons.{caller_of}
use Rattle.link_session.proofs.Calling.{legal_of, calls_by_pass}
use Rattle.link_session.proofs.Turns.{goes_call}
use Rattle.link_session.proofs.by_turn.ByTurnCaller.call.Goals as goal

pub call-requires-clause-legal : goal.call-requires-clause-legal
call-requires-clause-legal g c = legal_of _ _ c.args.call.request c.requires.none

pub returns-clause-calls : goal.returns-clause-calls
returns-clause-calls g c =
    calls_by_pass c.args.self.now.turn.now.settings c.args.call c.args.own.now c.call.new.pass c.call.result c.call.ensures.same c.call.ensures.answered c.call.ensures.failed

pub returns-clause-goes : goal.returns-clause-goes
returns-clause-goes g c =
    let calls = calls_by_pass c.args.self.now.turn.now.settings c.args.call c.args.own.now c.call.new.pass c.call.result c.call.ensures.same c.call.ensures.answered c.call.ensures.failed in
    goes_call c.args.self.now.turn.now.settings c.args.call (caller_of c.args.own.now) c.call.result (caller_of c.call.new.pass) c.requires.fits.alone calls
