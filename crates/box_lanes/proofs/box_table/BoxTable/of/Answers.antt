use Rattle.std.proofs.Common.{length, refl}
use Rattle.box_lanes.proofs.Eights.{boxes_are, blocks_are, count_are}
use Rattle.box_lanes.proofs.box_table.BoxTable.of.Goals as goal

pub invariant_of-result : goal.invariant_of-result
invariant_of-result c =
    let boxes = c.args.boxes.now in
    let are = c.in_ok-fill.ensures c.new-blocks.ensures.items in
    record { blocks = blocks_are _ (length boxes) boxes are refl; count_is = count_are _ (length boxes) boxes are refl; few = c.requires }

pub returns : goal.returns
returns c = boxes_are _ (length c.args.boxes.now) c.args.boxes.now (c.in_ok-fill.ensures c.new-blocks.ensures.items) refl
