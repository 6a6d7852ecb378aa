use Rattle.std.proofs.Common.{◌≡◌, map, Some}
use Rattle.p21_values.specs.InstanceLookup.{look}
use Rattle.ifc_elements.specs.Items.{bodies_among}
use Rattle.ifc_elements.proofs.body_items.bodies_among.Given as goal

abbrev pub invariant-loop-value : goal.invariant-loop-value
invariant-loop-value l = map (look l.exchange) l.found.items ≡ map Some (bodies_among l.exchange l.yielded)
