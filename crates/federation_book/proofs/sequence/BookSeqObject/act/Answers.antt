use Rattle.book_history.proofs.Histories.{before_all}
use Rattle.federation_book.proofs.sequence.BookSeqObject.act.Goals as goal

pub act-requires-clause-after : goal.act-requires-clause-after
act-requires-clause-after c = before_all c.args.stamp.turn c.args.self.now.journal c.requires.after
