use Rattle.lane_tests.proofs.worker_tests.ask.Goals as goal

-- a request that may be made at any time may be made now
pub call-requires-clause-legal : goal.call-requires-clause-legal
call-requires-clause-legal g c = c.requires.free c.args.turn.now.settings c.args.pass.now.seen
