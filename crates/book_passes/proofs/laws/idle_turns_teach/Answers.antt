use Rattle.book_passes.proofs.Learning.{takes_idly}
use Rattle.book_passes.proofs.laws.idle_turns_teach.Goals as goal

pub returns : goal.returns
returns c = takes_idly
