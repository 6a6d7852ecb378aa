use Rattle.std.proofs.Common.{◌≡◌, ◌*◌, ◌++◌, [], List, drop}
use Rattle.box_lanes.specs.declared.blocks.Block.{Block}
use Rattle.box_lanes.specs.Blocks.{AreBlocks}
use Rattle.box_lanes.proofs.blocks.fill.Given as goal

abbrev pub invariant-loop-k : goal.invariant-loop-k
invariant-loop-k l = l.fn.blocks.items ≡ [] → (tail : List Block) → AreBlocks tail (drop (8 * l.k) l.boxes) → AreBlocks (l.blocks.items ++ tail) l.boxes
