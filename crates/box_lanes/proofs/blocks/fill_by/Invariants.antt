use Rattle.std.proofs.Common.{◌≡◌, ◌*◌, ◌++◌, [], List, drop, map}
use Rattle.box_lanes.specs.declared.blocks.Block.{Block}
use Rattle.box_lanes.specs.BoxPlaces.{box_at}
use Rattle.box_lanes.specs.Blocks.{AreBlocks}
use Rattle.box_lanes.proofs.blocks.fill_by.Given as goal

abbrev pub invariant-loop-k : goal.invariant-loop-k
invariant-loop-k l = l.fn.blocks.items ≡ [] → (tail : List Block) → AreBlocks tail (drop (8 * l.k) (map (box_at l.boxes) l.places)) → AreBlocks (l.blocks.items ++ tail) (map (box_at l.boxes) l.places)
