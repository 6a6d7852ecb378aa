use Rattle.std.proofs.Common.{All, take}
use Rattle.bim_model.specs.declared.geometry.Triangle.{Triangle}
use Rattle.clearance.specs.Near.{Near}
use Rattle.clearance.proofs.triangle_runs.list_near.Given as goal

abbrev pub invariant-loop-q : goal.invariant-loop-q
invariant-loop-q l = All (λ (q : Triangle). Near l.p q l.fn.d → ⊥) (take l.q-index l.qs)
