use Rattle.model_build.proofs.FirstRepeated.{Searched}
use Rattle.model_build.proofs.guids.first_repeated.Given as goal

abbrev pub invariant-loop-id : goal.invariant-loop-id
invariant-loop-id l = Searched l.exchange l.ids l.id-index l.seen
