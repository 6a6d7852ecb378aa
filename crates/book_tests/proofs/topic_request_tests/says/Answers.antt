use Rattle.book_tests.proofs.topic_request_tests.says.Goals as goal

pub ask-requires-clause-legal : goal.ask-requires-clause-legal
ask-requires-clause-legal g c = c.requires.free c.args.book.now.settings c.args.book.now.journal
