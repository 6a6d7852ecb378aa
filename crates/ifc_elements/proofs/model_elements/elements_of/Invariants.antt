use Rattle.std.proofs.Common.{ℕ, List, take}
use Rattle.std.specs.List.{AllZip}
use Rattle.placement.specs.Placed.{AreFrames, frame_in}
use Rattle.ifc_elements.specs.Sound.{AreSets}
use Rattle.ifc_elements.specs.ElementReadiness.{IsNearElement}
use Rattle.ifc_elements.proofs.model_elements.elements_of.Given as goal

abbrev pub invariant-loop-id : goal.invariant-loop-id
invariant-loop-id l = (placements listed : List ℕ) → AreFrames l.exchange l.scale l.mode placements (frame_in l.frames) → AreSets l.exchange l.scale l.mode listed l.sets → AllZip (IsNearElement l.exchange l.scale l.mode) (take l.id-index l.ids) l.made.items
