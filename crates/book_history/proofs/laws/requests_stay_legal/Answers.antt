use Rattle.book_history.proofs.Legality.{legal_later}
use Rattle.book_history.proofs.laws.requests_stay_legal.Goals as goal

pub returns : goal.returns
returns c = legal_later
