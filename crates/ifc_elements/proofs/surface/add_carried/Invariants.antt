use Rattle.std.proofs.Common.{◌≡◌, ◌++◌, map, take}
use Rattle.ifc_elements.specs.Surfaces.{moved}
use Rattle.ifc_elements.proofs.surface.add_carried.Given as goal

abbrev pub invariant-loop-triangle : goal.invariant-loop-triangle
invariant-loop-triangle l = l.out.items ≡ l.initial.out.items ++ map (moved l.frame) (take l.triangle-index l.own)
