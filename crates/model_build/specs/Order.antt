-- The order of the elements of a model.
use Rattle.std.specs.Prelude.{List, IsTrue, AllPairs}
use Rattle.bim_model.specs.Models.{is_below}
use Rattle.bim_model.specs.declared.element.Element.{Element}

-- they rise strictly by identifier
abbrev pub Rise : List Element → Type 0
Rise elements = AllPairs (λ (e f : Element). IsTrue (is_below e.guid.chars f.guid.chars)) elements
