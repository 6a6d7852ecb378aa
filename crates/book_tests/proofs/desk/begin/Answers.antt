use Rattle.book_tests.proofs.desk.begin.Goals as goal

pub ask-requires-clause-legal : goal.ask-requires-clause-legal
ask-requires-clause-legal c = c.requires.free c.args.book.now.settings c.args.book.now.journal
