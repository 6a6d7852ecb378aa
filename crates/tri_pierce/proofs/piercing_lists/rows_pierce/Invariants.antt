use Rattle.std.proofs.Common.{All, take}
use Rattle.bim_model.specs.declared.geometry.Triangle.{Triangle}
use Rattle.tri_pierce.specs.Piercing.{PiercesAny}
use Rattle.tri_pierce.proofs.piercing_lists.rows_pierce.Given as goal

abbrev pub invariant-loop-p : goal.invariant-loop-p
invariant-loop-p l = All (λ (p : Triangle). PiercesAny p l.qs → ⊥) (take l.p-index l.ps)
