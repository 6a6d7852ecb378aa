use Rattle.book_turn.proofs.Fronts.{fronts_agree}
use Rattle.book_turn.proofs.laws.seen_fronts_agree.Goals as goal

pub returns : goal.returns
returns g c = fronts_agree g.O.SeqObject.stamp_of
