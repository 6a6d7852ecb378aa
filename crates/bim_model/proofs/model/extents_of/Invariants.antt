use Rattle.std.proofs.Common.{take}
use Rattle.bim_model.specs.Models.{AreBoxes}
use Rattle.bim_model.proofs.model.extents_of.Given as goal

abbrev pub invariant-loop-element : goal.invariant-loop-element
invariant-loop-element l = AreBoxes (take l.element-index l.elements) l.extents.items
