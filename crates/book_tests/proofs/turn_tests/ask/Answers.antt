use Rattle.book_tests.proofs.turn_tests.ask.Goals as goal

pub call-requires-clause-legal : goal.call-requires-clause-legal
call-requires-clause-legal g c = c.requires.legal c.args.turn.now.settings c.args.pass.now.seen
