use Rattle.federation_book.proofs.Acting.{given_after}
use Rattle.book_tests.proofs.desk.ask.Goals as goal

pub returns-clause-stays : goal.returns-clause-stays
returns-clause-stays c = given_after c.args.book.now c.act.new.self _ c.in_ok-act.ensures.settings c.in_ok-act.ensures.added
