use Rattle.book_history.proofs.Again.{made_is_accepted}
use Rattle.book_history.proofs.laws.made_is_accepted.Goals as goal

pub returns : goal.returns
returns c = made_is_accepted
