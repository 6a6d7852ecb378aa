use Rattle.std.proofs.Common.{take, All}
use Rattle.model_build.specs.inner.Outcomes.{ShowsApartSet}
use Rattle.model_build.proofs.uncut_faces.some_unbridged.Given as goal

abbrev pub invariant-loop-id : goal.invariant-loop-id
invariant-loop-id l = All (λ k. ShowsApartSet l.exchange l.scale l.mode k l.face → ⊥) (take l.id-index l.ids)
