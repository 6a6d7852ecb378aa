use Rattle.std.proofs.Common.{◌≡◌, take}
use Rattle.bim_model.proofs.snapshot.Snapshot.with_rules.Given as goal

abbrev pub invariant-loop-model : goal.invariant-loop-model
invariant-loop-model l = l.models.items ≡ take l.model-index l.model-items
