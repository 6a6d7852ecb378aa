use Rattle.std.proofs.Common.{◌∷◌, take}
use Rattle.bim_model.specs.Boxes.{Bounds, corners_of}
use Rattle.bim_model.proofs.geometry.extent_of.Given as goal

abbrev pub invariant-loop-triangle : goal.invariant-loop-triangle
invariant-loop-triangle l =
    Bounds (l.initial.extent.low ∷ corners_of (take l.triangle-index l.triangles)) l.extent
