use Rattle.std.proofs.Common.{take, IsTrue}
use Rattle.std.specs.List.{AllPairs}
use Rattle.bim_model.specs.declared.element.Element.{Element}
use Rattle.bim_model.specs.Models.{is_below}
use Rattle.bim_model.proofs.validity.are_rising.Given as goal

abbrev pub invariant-loop-next : goal.invariant-loop-next
invariant-loop-next l = AllPairs (λ (e f : Element). IsTrue (is_below e.guid.chars f.guid.chars)) (take l.next l.elements)
