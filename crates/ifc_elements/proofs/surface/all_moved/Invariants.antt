use Rattle.std.proofs.Common.{◌≡◌, All, map, take}
use Rattle.bim_model.specs.Boxes.{corners_of}
use Rattle.bim_model.specs.Models.{IsInReach}
use Rattle.ifc_elements.specs.Surfaces.{moved}
use Rattle.ifc_elements.proofs.surface.all_moved.Given as goal

abbrev pub invariant-loop-triangle : goal.invariant-loop-triangle
invariant-loop-triangle l = (l.made.items ≡ map (moved l.frame) (take l.triangle-index l.own)) × All IsInReach (corners_of l.made.items)
