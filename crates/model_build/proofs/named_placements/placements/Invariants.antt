use Rattle.std.proofs.Common.{take}
use Rattle.model_build.specs.NamedPlacements.{ListsNamed}
use Rattle.model_build.proofs.named_placements.placements.Given as goal

abbrev pub invariant-loop-id : goal.invariant-loop-id
invariant-loop-id l = ListsNamed l.exchange (take l.id-index l.ids) l.named.items
