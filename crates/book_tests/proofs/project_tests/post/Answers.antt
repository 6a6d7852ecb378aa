use Rattle.book_tests.proofs.project_tests.post.Goals as goal

pub act-requires-clause-legal : goal.act-requires-clause-legal
act-requires-clause-legal c = c.in_ok-request.ensures c.args.book.now.settings c.args.book.now.journal
