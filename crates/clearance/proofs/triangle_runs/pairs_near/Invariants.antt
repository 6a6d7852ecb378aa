use Rattle.std.proofs.Common.{All, take}
use Rattle.bim_model.specs.declared.geometry.Triangle.{Triangle}
use Rattle.clearance.specs.Near.{NearAny}
use Rattle.clearance.proofs.triangle_runs.pairs_near.Given as goal

abbrev pub invariant-loop-p : goal.invariant-loop-p
invariant-loop-p l = All (λ (p : Triangle). NearAny p l.qs l.fn.d → ⊥) (take l.p-index l.ps)
