use Rattle.book_tests.proofs.desk.change.Goals as goal

pub ask-requires-clause-legal : goal.ask-requires-clause-legal
ask-requires-clause-legal g c = c.requires.free c.args.book.now.settings c.args.book.now.journal
