use Rattle.std.proofs.Common.{◌≡◌, ◌++◌, filter, take}
use Rattle.bim_model.specs.Models.{is_below}
use Rattle.bim_model.specs.declared.named_model.NamedModel.{NamedModel}
use Rattle.bim_model.proofs.snapshot.push_below.Given as goal

abbrev pub invariant-loop-model : goal.invariant-loop-model
invariant-loop-model l = l.made.items ≡ l.initial.made.items ++ filter (λ (m : NamedModel). is_below m.name l.name) (take l.model-index l.models)
