use Rattle.std.proofs.Common.{All, List, length}
use Rattle.bim_model.specs.declared.geometry.Triangle.{Triangle}
use Rattle.bim_model.specs.Points.{IsInGrid}
use Rattle.clearance.specs.Near.{ListsNear}
use Rattle.clearance.proofs.Parts.{IsLeft}
use Rattle.clearance.proofs.solids.lists_near.Given as goal

abbrev pub decreases-loop-rest : goal.decreases-loop-rest
decreases-loop-rest l = length l.rest

abbrev pub invariant-loop-rest : goal.invariant-loop-rest
invariant-loop-rest l = All IsInGrid l.rest × IsLeft (λ (ts : List Triangle). ListsNear l.ps ts l.fn.d) l.qs l.rest
