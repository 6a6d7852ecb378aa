use Rattle.std.proofs.Common.{rules, false, ◌≡◌, ◌<◌, ◌%◌, ◌*◌, ◌/◌, ◌^◌, length, map, take, drop, ◌∙◌, sym, ap, subst, arith}
use Rattle.std.proofs.lemmas.List.Elements.{All-weaker}
use Rattle.std.proofs.lemmas.List.{length-drop}
use lib.Lanes.{mask_l}
use Rattle.bim_model.specs.declared.geometry.Extent.{Extent}
use Rattle.box_lanes.specs.declared.blocks.Block.{Block}
use Rattle.box_lanes.specs.CoarseBoxes.{meets, Fits32}
use Rattle.box_lanes.specs.Blocks.{boxes_in, padded, IsBlock}
use Rattle.box_lanes.proofs.Eights.{block_at, block_in, length_padded, padded_bits}
use Rattle.box_lanes.proofs.Vectors.{Fit, far, far_list, far_fit, spans, and_also, masked}
use Rattle.box_lanes.proofs.box_table.BoxTable.lanes.Goals as goal

pub index-block-requires : goal.index-block-requires
index-block-requires c =
    let n : c.args.self.now ≡ boxes_in c.self.inside = sym c.self.view_is in
    omega (arith, block_in c.self.inside.blocks.items (boxes_in c.self.inside) c.args.at c.self.invariant.blocks (omega (arith, c.requires.within, ap length n)), ap length c.as_slice.ensures.value, c.as_slice.ensures.len)

pub returns : goal.returns
returns c =
    let at = c.args.at in
    let r = c.args.reach.now in
    let t = c.self.invariant in
    let blocks = c.self.inside.blocks.items in
    let boxes = boxes_in c.self.inside in
    let bs = padded 8 (drop at boxes) in
    let block = c.index-block.result.now in
    let n : c.args.self.now ≡ boxes = sym c.self.view_is in
    let lt : at < length boxes = omega (arith, c.requires.within, ap length n) in
    let place : 8 * (at / 8) ≡ at = omega (arith, c.requires.block) in
    let there : IsBlock block (padded 8 (drop (8 * (at / 8)) boxes)) = subst (λ (b : Block). IsBlock b (padded 8 (drop (8 * (at / 8)) boxes))) (sym c.index-block.ensures) (block_at blocks boxes (at / 8) block t.blocks (block_in blocks boxes at t.blocks lt)) in
    let is : IsBlock block bs = subst (λ m. IsBlock block (padded 8 (drop m boxes))) place there in
    let long = length_padded 8 (drop at boxes) in
    let x = spans false (λ (b : Extent). b.low.x) (far r.later_x (λ (b : Extent). b.low.x) (λ (b : Extent). b.high.x)) r.low.x r.high.x bs (search rules) (search rules) long
    (All-weaker Fits32 (Fit false (λ (b : Extent). b.low.x)) (λ b (f : Fits32 b). f.low_x) bs is.fits) (far_fit false r.later_x (λ (b : Extent). b.low.x) (λ (b : Extent). b.high.x) bs (All-weaker Fits32 (Fit false (λ (b : Extent). b.low.x)) (λ b (f : Fits32 b). f.low_x) bs is.fits) (All-weaker Fits32 (Fit false (λ (b : Extent). b.high.x)) (λ b (f : Fits32 b). f.high_x) bs is.fits))
    is.low_x_is (far_list r.later_x (λ (b : Extent). b.low.x) (λ (b : Extent). b.high.x) bs c.far_lane-far_x.ensures is.low_x_is is.high_x_is) in
    let y = spans false (λ (b : Extent). b.low.y) (far r.later_y (λ (b : Extent). b.low.y) (λ (b : Extent). b.high.y)) r.low.y r.high.y bs (search rules) (search rules) long
    (All-weaker Fits32 (Fit false (λ (b : Extent). b.low.y)) (λ b (f : Fits32 b). f.low_y) bs is.fits) (far_fit false r.later_y (λ (b : Extent). b.low.y) (λ (b : Extent). b.high.y) bs (All-weaker Fits32 (Fit false (λ (b : Extent). b.low.y)) (λ b (f : Fits32 b). f.low_y) bs is.fits) (All-weaker Fits32 (Fit false (λ (b : Extent). b.high.y)) (λ b (f : Fits32 b). f.high_y) bs is.fits))
    is.low_y_is (far_list r.later_y (λ (b : Extent). b.low.y) (λ (b : Extent). b.high.y) bs c.far_lane-far_y.ensures is.low_y_is is.high_y_is) in
    let z = spans false (λ (b : Extent). b.low.z) (far r.later_z (λ (b : Extent). b.low.z) (λ (b : Extent). b.high.z)) r.low.z r.high.z bs (search rules) (search rules) long
    (All-weaker Fits32 (Fit false (λ (b : Extent). b.low.z)) (λ b (f : Fits32 b). f.low_z) bs is.fits) (far_fit false r.later_z (λ (b : Extent). b.low.z) (λ (b : Extent). b.high.z) bs (All-weaker Fits32 (Fit false (λ (b : Extent). b.low.z)) (λ b (f : Fits32 b). f.low_z) bs is.fits) (All-weaker Fits32 (Fit false (λ (b : Extent). b.high.z)) (λ b (f : Fits32 b). f.high_z) bs is.fits))
    is.low_z_is (far_list r.later_z (λ (b : Extent). b.low.z) (λ (b : Extent). b.high.z) bs c.far_lane-far_z.ensures is.low_z_is is.high_z_is) in
    let whole = masked false (meets r) bs long (and_also false _ _ bs (and_also false _ _ bs x y) z) in
    λ m h k.
    ap (λ w. w % 2 ^ m) whole ∙ padded_bits (meets r) (drop at boxes) m h (omega (arith, k, ap length n, length-drop at boxes))
    ∙ ap (λ l. mask_l (map (meets r) (take m (drop at l)))) (sym n)
