use Rattle.std.proofs.Common.{ℕ, List, take, flat_map}
use Rattle.p21_values.specs.declared.value.Instance.{Instance}
use Rattle.faceset.specs.FaceSets.{Joined}
use Rattle.ifc_elements.specs.Items.{items_of}
use Rattle.ifc_elements.specs.Finding.{Number}
use Rattle.ifc_elements.specs.Sound.{AreSets, KeptItem}
use Rattle.ifc_elements.proofs.surface.bodies_triangles.Given as goal

abbrev pub invariant-loop-id : goal.invariant-loop-id
invariant-loop-id l = (listed : List ℕ) (are : List Instance) → AreSets l.exchange l.scale l.mode listed l.sets → Number l.exchange l.ids are
    → Joined (KeptItem l.exchange l.scale l.mode) (flat_map (items_of l.exchange) (take l.id-index are)) l.own.items
