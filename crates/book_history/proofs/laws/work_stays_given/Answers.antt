use Rattle.book_history.proofs.Given.{given_out}
use Rattle.book_history.proofs.Legality.{given_later}
use Rattle.book_history.proofs.laws.work_stays_given.Goals as goal

pub returns : goal.returns
returns c = λ settings history more seat work is bucket. given_later settings history more work (given_out settings history seat work is bucket)
