use Rattle.book_passes.proofs.Learning.{learns_turn}
use Rattle.book_passes.proofs.laws.turns_teach.Goals as goal

pub returns : goal.returns
returns c = learns_turn
