use Rattle.std.proofs.Common.{◌≡◌, ◌+◌, take, length}
use Rattle.bim_model.specs.Keys.{subjects_of}
use Rattle.bucket_grid.specs.declared.grid.TheConstants.{MOST_ELEMENTS}
use Rattle.bucket_grid.proofs.subjects.has_few_elements.Given as goal

abbrev pub invariant-loop-model : goal.invariant-loop-model
invariant-loop-model l = l.left + length (subjects_of (take l.model-index l.models)) ≡ MOST_ELEMENTS
