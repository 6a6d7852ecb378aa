use Rattle.std.proofs.Common.{◌≡◌, ◌+◌, drop}
use Rattle.bim_model.specs.Models.{triangle_count}
use Rattle.bim_model.proofs.model.Model.triangle_count.Given as goal

abbrev pub invariant-loop-element : goal.invariant-loop-element
invariant-loop-element l = l.count + triangle_count (drop l.element-index l.element-items) ≡ triangle_count l.element-items
