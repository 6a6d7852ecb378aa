use Rattle.std.proofs.Common.{take, All}
use Rattle.ifc_elements.specs.Finding.{Finds}
use Rattle.model_build.specs.Faces.{HasManyCorners}
use Rattle.model_build.proofs.full_faces.some_has_many_corners.Given as goal

abbrev pub invariant-loop-id : goal.invariant-loop-id
invariant-loop-id l = All (λ k. Finds l.exchange k HasManyCorners → ⊥) (take l.id-index l.used)
