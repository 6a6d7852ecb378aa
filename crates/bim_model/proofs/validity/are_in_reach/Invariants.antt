use Rattle.std.proofs.Common.{take, All}
use Rattle.bim_model.specs.Boxes.{corners_of}
use Rattle.bim_model.specs.Models.{IsInReach}
use Rattle.bim_model.proofs.validity.are_in_reach.Given as goal

abbrev pub invariant-loop-triangle : goal.invariant-loop-triangle
invariant-loop-triangle l = All IsInReach (corners_of (take l.triangle-index l.triangles))
