use Rattle.std.proofs.Common.{All, take}
use Rattle.bim_model.specs.declared.geometry.Triangle.{Triangle}
use Rattle.tri_pierce.specs.Piercing.{Pierces}
use Rattle.tri_pierce.proofs.piercing_lists.pierces_any.Given as goal

abbrev pub invariant-loop-q : goal.invariant-loop-q
invariant-loop-q l = All (λ (q : Triangle). Pierces l.p q → ⊥) (take l.q-index l.qs)
