use Rattle.std.proofs.Common.{◌≡◌, ◌^◌, ◌-◌, take, length, min}
use Rattle.bim_model.specs.Keys.{subjects_of}
use Rattle.clash_check.proofs.version_check.element_count.Given as goal

abbrev pub invariant-loop-model : goal.invariant-loop-model
invariant-loop-model l = l.count ≡ min (length (subjects_of (take l.model-index l.models))) (2 ^ 64 - 1)
