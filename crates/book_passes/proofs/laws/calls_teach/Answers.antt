use Rattle.book_passes.proofs.Learning.{takes_call}
use Rattle.book_passes.proofs.laws.calls_teach.Goals as goal

pub returns : goal.returns
returns c = takes_call
