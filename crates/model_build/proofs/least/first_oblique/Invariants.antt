use Rattle.std.proofs.Common.{take, All}
use Rattle.model_build.specs.FaultyInstances.{IsOblique}
use Rattle.model_build.proofs.least.first_oblique.Given as goal

abbrev pub invariant-loop-id : goal.invariant-loop-id
invariant-loop-id l = All (λ k. IsOblique l.exchange k → ⊥) (take l.id-index l.used)
