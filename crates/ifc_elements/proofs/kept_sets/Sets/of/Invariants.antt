use Rattle.std.proofs.Common.{take}
use Rattle.ifc_elements.specs.Sound.{AreSets}
use Rattle.ifc_elements.proofs.kept_sets.Sets.of.Given as goal

abbrev pub invariant-loop-id : goal.invariant-loop-id
invariant-loop-id l = AreSets l.exchange l.scale l.mode (take l.id-index l.listed) l.sets
