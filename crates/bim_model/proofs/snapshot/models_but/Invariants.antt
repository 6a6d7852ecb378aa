use Rattle.std.proofs.Common.{◌≡◌, take}
use Rattle.bim_model.specs.Snapshots.{without_model}
use Rattle.bim_model.proofs.snapshot.models_but.Given as goal

abbrev pub invariant-loop-model : goal.invariant-loop-model
invariant-loop-model l = l.made.items ≡ without_model l.name (take l.model-index l.models)
