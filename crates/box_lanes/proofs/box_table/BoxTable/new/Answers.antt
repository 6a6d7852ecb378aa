use Rattle.std.proofs.Common.{[], refl, arith}
use Rattle.box_lanes.proofs.Eights.{boxes_are, blocks_are, count_are, no_blocks}
use Rattle.box_lanes.proofs.box_table.BoxTable.new.Goals as goal

pub invariant_of-result : goal.invariant_of-result
invariant_of-result c =
    let none = no_blocks c.new.result.items c.new.ensures.items in
    record { blocks = blocks_are c.new.result.items 0 [] none refl; count_is = count_are c.new.result.items 0 [] none refl; few = omega arith }

pub returns : goal.returns
returns c = boxes_are c.new.result.items 0 [] (no_blocks c.new.result.items c.new.ensures.items) refl
