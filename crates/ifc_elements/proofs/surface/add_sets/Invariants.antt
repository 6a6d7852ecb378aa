use Rattle.std.proofs.Common.{ℕ, List, All}
use Rattle.bim_model.specs.declared.upload.Mode.{Mode}
use Rattle.bim_model.specs.Boxes.{corners_of}
use Rattle.bim_model.specs.Models.{IsInReach}
use Rattle.ifc_units.specs.declared.scale.Scale.{Scale}
use Rattle.faceset.specs.FaceSets.{Joined}
use Rattle.p21_values.specs.Attributes.{led_to}
use Rattle.ifc_elements.specs.Sound.{AreSets, Adds, KeptSet}
use Rattle.ifc_elements.proofs.surface.add_sets.Given as goal

abbrev pub invariant-loop-value : goal.invariant-loop-value
invariant-loop-value l = record {
  near : All IsInReach (corners_of l.initial.out.items) → All IsInReach (corners_of l.out.items);
  added : (scale : Scale) (mode : Mode) (listed : List ℕ) → AreSets l.exchange scale mode listed l.sets → Adds (Joined (KeptSet l.exchange scale mode) (led_to l.exchange l.yielded)) l.initial.out.items l.out.items;
}
