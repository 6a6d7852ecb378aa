use Rattle.std.proofs.Common.{◌≡◌, map, take}
use Rattle.bim_model.specs.declared.element.Element.{Element}
use Rattle.model_walk.proofs.walking.guids_of.Given as goal

abbrev pub invariant-loop-element : goal.invariant-loop-element
invariant-loop-element l = l.guids.items ≡ map (λ (e : Element). e.guid.chars) (take l.element-index l.elements)
