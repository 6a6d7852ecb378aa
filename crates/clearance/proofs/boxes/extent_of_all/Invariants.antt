use Rattle.std.proofs.Common.{All, take}
use Rattle.bim_model.specs.declared.geometry.Triangle.{Triangle}
use Rattle.bim_model.specs.Points.{shape_of}
use Rattle.clearance.specs.inner.BoxContainment.{InExtent, IsExtent}
use Rattle.clearance.proofs.boxes.extent_of_all.Given as goal

abbrev pub invariant-loop-t : goal.invariant-loop-t
invariant-loop-t l = IsExtent l.found × All (λ (t : Triangle). InExtent l.found (shape_of t)) (take l.t-index l.ts)
