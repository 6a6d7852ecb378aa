use Rattle.book_history.proofs.Again.{made_are_accepted}
use Rattle.book_history.proofs.laws.made_are_accepted.Goals as goal

pub returns : goal.returns
returns c = made_are_accepted
