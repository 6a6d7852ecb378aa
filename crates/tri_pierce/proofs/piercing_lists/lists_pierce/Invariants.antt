use Rattle.std.proofs.Common.{All, List, length}
use Rattle.bim_model.specs.declared.geometry.Triangle.{Triangle}
use Rattle.bim_model.specs.Points.{IsInGrid}
use Rattle.clearance.proofs.Parts.{IsLeft}
use Rattle.tri_pierce.specs.Piercing.{ListsPierce}
use Rattle.tri_pierce.proofs.piercing_lists.lists_pierce.Given as goal

abbrev pub decreases-loop-rest : goal.decreases-loop-rest
decreases-loop-rest l = length l.rest

abbrev pub invariant-loop-rest : goal.invariant-loop-rest
invariant-loop-rest l = All IsInGrid l.rest × IsLeft (λ (ts : List Triangle). ListsPierce ts l.qs) l.ps l.rest
