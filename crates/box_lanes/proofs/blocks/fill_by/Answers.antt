use Rattle.std.proofs.Common.{◌*◌, ◌≤◌, ◌++◌, [], List, length, map, drop, sym, subst, ◌∙◌, arith, append-nil}
use Rattle.std.proofs.lemmas.List.{length-map}
use Rattle.bim_model.specs.declared.geometry.Extent.{Extent}
use Rattle.box_lanes.specs.declared.blocks.Block.{Block}
use Rattle.box_lanes.specs.BoxPlaces.{box_at}
use Rattle.box_lanes.specs.Blocks.{AreBlocks, IsBlock, padded}
use Rattle.box_lanes.proofs.Eights.{at_place, eight_are, none_left, one_more}
use Rattle.box_lanes.proofs.blocks.fill_by.Goals as goal

pub loop-k-init : goal.loop-k-init
loop-k-init c h tail t = subst (λ (l : List Block). AreBlocks (l ++ tail) (map (box_at c.args.boxes.now) c.args.places.now)) (sym (c.in_ok-reserve.ensures.items ∙ h)) t

pub loop-k-preserved : goal.loop-k-preserved
loop-k-preserved c h tail t =
    let boxes : List Extent = map (box_at c.args.boxes.now) c.args.places.now in
    let k = c.loop-k.k in
    let block = c.block_of-block.result in
    let same = eight_are (8 * k) boxes _ _ _ _ _ _ _ _
    (at_place boxes _ _ _ c.box_by.ensures (omega arith))
    (at_place boxes _ _ _ c.box_by-in-loop-k.ensures (omega arith))
    (at_place boxes _ _ _ c.box_by-in-loop-k-2.ensures (omega arith))
    (at_place boxes _ _ _ c.box_by-in-loop-k-3.ensures (omega arith))
    (at_place boxes _ _ _ c.box_by-in-loop-k-4.ensures (omega arith))
    (at_place boxes _ _ _ c.box_by-in-loop-k-5.ensures (omega arith))
    (at_place boxes _ _ _ c.box_by-in-loop-k-6.ensures (omega arith))
    (at_place boxes _ _ _ c.box_by-in-loop-k-7.ensures (omega arith)) in
    let is : IsBlock block (padded 8 (drop (8 * k) boxes)) = subst (IsBlock block) same c.block_of-block.ensures in
    subst (λ (l : List Block). AreBlocks (l ++ tail) boxes) (sym c.in_ok-push.ensures.items) (one_more c.loop-k.blocks.items block tail boxes k (c.loop-k.invariant h) is t)

pub returns : goal.returns
returns c h =
    let boxes : List Extent = map (box_at c.args.boxes.now) c.args.places.now in
    let all : length boxes ≤ 8 * c.loop-k.k = omega (arith, c.blocks_for-count.ensures.enough, c.loop-k-test.false, length-map c.args.places.now (box_at c.args.boxes.now)) in
    record { are = subst (λ (l : List Block). AreBlocks l boxes) (append-nil c.loop-k.blocks.items) (c.loop-k.invariant h [] (none_left (8 * c.loop-k.k) boxes all)) }
