use Rattle.std.proofs.Common.{◌≡◌, take}
use Rattle.book_history.specs.Weights.{told, model_text}
use Rattle.book_history.proofs.weights.model_text.Given as goal

abbrev pub invariant-loop-element : goal.invariant-loop-element
invariant-loop-element l = l.text ≡ told (model_text (take l.element-index l.element-items))
