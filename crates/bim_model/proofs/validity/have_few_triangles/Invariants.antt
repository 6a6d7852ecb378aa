use Rattle.std.proofs.Common.{◌≡◌, ◌+◌, drop}
use Rattle.bim_model.specs.Models.{triangle_count}
use Rattle.bim_model.specs.declared.limits.TheConstants.{MOST_TRIANGLES}
use Rattle.bim_model.proofs.validity.have_few_triangles.Given as goal

abbrev pub invariant-loop-element : goal.invariant-loop-element
invariant-loop-element l = MOST_TRIANGLES + triangle_count (drop l.element-index l.elements) ≡ l.left + triangle_count l.elements
