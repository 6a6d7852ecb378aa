use Rattle.std.proofs.Common.{◌≡◌, take}
use Rattle.book_history.specs.Weights.{told, triangles_among}
use Rattle.book_history.proofs.weights.triangles_among.Given as goal

abbrev pub invariant-loop-model : goal.invariant-loop-model
invariant-loop-model l = l.count ≡ told (triangles_among (take l.model-index l.models))
