use Rattle.std.proofs.Common.{ℕ, List}
use Rattle.faceset.specs.FaceSets.{Joined}
use Rattle.p21_values.specs.Attributes.{led_to}
use Rattle.ifc_elements.specs.Sound.{AreSets, Adds, KeptItem}
use Rattle.ifc_elements.proofs.surface.add_items.Given as goal

abbrev pub invariant-loop-value : goal.invariant-loop-value
invariant-loop-value l = (listed : List ℕ) → AreSets l.exchange l.scale l.mode listed l.sets
    → Adds (Joined (KeptItem l.exchange l.scale l.mode) (led_to l.exchange l.yielded)) l.initial.out.items l.out.items
