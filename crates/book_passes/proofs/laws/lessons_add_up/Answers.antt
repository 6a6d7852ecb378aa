use Rattle.book_passes.proofs.Learning.{learns_trans}
use Rattle.book_passes.proofs.laws.lessons_add_up.Goals as goal

pub returns : goal.returns
returns c = learns_trans
