use Rattle.std.proofs.Common.{take, All}
use Rattle.bim_model.specs.Models.{IsModelled}
use Rattle.bim_model.proofs.validity.are_modelled.Given as goal

abbrev pub invariant-loop-element : goal.invariant-loop-element
invariant-loop-element l = All IsModelled (take l.element-index l.elements)
