use Rattle.std.proofs.Common.{take, option_copied, All}
use Rattle.faceset.specs.inner.FaceNumbers.{IsStuckFace}
use Rattle.faceset.proofs.stuck.first_in.Given as goal

abbrev pub invariant-loop-id : goal.invariant-loop-id
invariant-loop-id l = All (λ id. IsStuckFace l.exchange (option_copied l.numbers) l.points id → ⊥) (take l.id-index l.ids)
