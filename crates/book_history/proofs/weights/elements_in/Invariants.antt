use Rattle.std.proofs.Common.{◌≡◌, take}
use Rattle.book_history.specs.Weights.{told, elements_in}
use Rattle.book_history.proofs.weights.elements_in.Given as goal

abbrev pub invariant-loop-model : goal.invariant-loop-model
invariant-loop-model l = l.count ≡ told (elements_in (take l.model-index l.models))
