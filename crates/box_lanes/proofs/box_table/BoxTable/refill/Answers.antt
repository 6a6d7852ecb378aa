use Rattle.std.proofs.Common.{length, map, sym}
use Rattle.std.proofs.lemmas.List.{length-map}
use Rattle.box_lanes.specs.BoxPlaces.{box_at}
use Rattle.box_lanes.proofs.Eights.{boxes_are, blocks_are, count_are}
use Rattle.box_lanes.proofs.box_table.BoxTable.refill.Goals as goal

pub invariant_of-self : goal.invariant_of-self
invariant_of-self c =
    let boxes = map (box_at c.args.boxes.now) c.args.places.now in
    let are = c.in-Ok.ensures c.clear.ensures.items in
    let n = sym (length-map c.args.places.now (box_at c.args.boxes.now)) in
    record { blocks = blocks_are _ (length c.args.places.now) boxes are n; count_is = count_are _ (length c.args.places.now) boxes are n; few = c.requires.few }

pub returns-in-Ok-clause-ok : goal.returns-in-Ok-clause-ok
returns-in-Ok-clause-ok c =
    boxes_are _ (length c.args.places.now) (map (box_at c.args.boxes.now) c.args.places.now) (c.in-Ok.ensures c.clear.ensures.items) (sym (length-map c.args.places.now (box_at c.args.boxes.now)))
