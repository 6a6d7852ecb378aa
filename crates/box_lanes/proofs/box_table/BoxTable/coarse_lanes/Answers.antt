use Rattle.std.proofs.Common.{pos, ℤ, ℕ, Bool, true, false, cond, refl, [], List, get_or, ◌≡◌, ◌<◌, ◌%◌, ◌*◌, ◌/◌, ◌^◌, length, map, take, drop, ◌∙◌, sym, ap, subst, arith}
use Rattle.std.proofs.lemmas.List.{length-drop}
use lib.Lanes.{mask_l}
use Rattle.bim_model.specs.declared.geometry.Extent.{Extent}
use Rattle.box_lanes.specs.declared.blocks.Block.{Block}
use Rattle.box_lanes.specs.CoarseBoxes.{may_meet, coarse}
use Rattle.box_lanes.specs.Blocks.{boxes_in, padded, IsBlock}
use Rattle.box_lanes.proofs.Coarse.{coarse_fits, all_fit}
use Rattle.box_lanes.proofs.Eights.{block_at, block_in, length_padded, padded_bits}
use Rattle.box_lanes.proofs.Vectors.{far, far_list, far_fit, spans_by, and_also, masked}
use Rattle.box_lanes.proofs.box_table.BoxTable.coarse_lanes.Goals as goal

pub index-requires : goal.index-requires
index-requires c =
    let n : c.args.self.now ≡ boxes_in c.self.inside = sym c.self.view_is in
    omega (arith, block_in c.self.inside.blocks.items (boxes_in c.self.inside) c.args.at c.self.invariant.blocks (omega (arith, c.requires.within, ap length n)), ap length c.as_slice.ensures.value, c.as_slice.ensures.len)

chosen : (b : Bool) (lists : List (List ℤ)) (i j : ℕ) → get_or lists (cond b i j) [] ≡ cond b (get_or lists i []) (get_or lists j [])
chosen true lists i j = refl
chosen false lists i j = refl

pub returns : goal.returns
returns c =
    let at = c.args.at in
    let r = c.args.reach.now in
    let t = c.self.invariant in
    let blocks = c.self.inside.blocks.items in
    let boxes = boxes_in c.self.inside in
    let bs = padded 8 (drop at boxes) in
    let whole_block = c.index.result.now in
    let block = whole_block.coarse in
    let n : c.args.self.now ≡ boxes = sym c.self.view_is in
    let lt : at < length boxes = omega (arith, c.requires.within, ap length n) in
    let place : 8 * (at / 8) ≡ at = omega (arith, c.requires.block) in
    let there : IsBlock whole_block (padded 8 (drop (8 * (at / 8)) boxes)) = subst (λ (b : Block). IsBlock b (padded 8 (drop (8 * (at / 8)) boxes))) (sym c.index.ensures) (block_at blocks boxes (at / 8) whole_block t.blocks (block_in blocks boxes at t.blocks lt)) in
    let is : IsBlock whole_block bs = subst (λ m. IsBlock whole_block (padded 8 (drop m boxes))) place there in
    let long = length_padded 8 (drop at boxes) in
    let side = λ (k : ℕ). ap (λ (l : List ℤ). get_or l k (pos 0)) c.requires.rough.sides in
    let list = λ (k : ℕ). ap (λ (l : List (List ℤ)). get_or l k []) is.coarse_is in
    let x = spans_by true (λ (b : Extent). coarse b.low.x) (far r.later_x (λ (b : Extent). coarse b.low.x) (λ (b : Extent). coarse b.high.x)) (coarse r.low.x) (coarse r.high.x) bs (side 0) (side 3) (coarse_fits r.low.x) (coarse_fits r.high.x) long
    (all_fit (λ b. b.low.x) bs) (far_fit true r.later_x (λ (b : Extent). coarse b.low.x) (λ (b : Extent). coarse b.high.x) bs (all_fit (λ b. b.low.x) bs) (all_fit (λ b. b.high.x) bs))
    (list 0) (far_list r.later_x (λ (b : Extent). coarse b.low.x) (λ (b : Extent). coarse b.high.x) bs (ap (λ n. get_or block n []) c.requires.rough.far_x ∙ chosen r.later_x block 0 3) (list 0) (list 3)) in
    let y = spans_by true (λ (b : Extent). coarse b.low.y) (far r.later_y (λ (b : Extent). coarse b.low.y) (λ (b : Extent). coarse b.high.y)) (coarse r.low.y) (coarse r.high.y) bs (side 1) (side 4) (coarse_fits r.low.y) (coarse_fits r.high.y) long
    (all_fit (λ b. b.low.y) bs) (far_fit true r.later_y (λ (b : Extent). coarse b.low.y) (λ (b : Extent). coarse b.high.y) bs (all_fit (λ b. b.low.y) bs) (all_fit (λ b. b.high.y) bs))
    (list 1) (far_list r.later_y (λ (b : Extent). coarse b.low.y) (λ (b : Extent). coarse b.high.y) bs (ap (λ n. get_or block n []) c.requires.rough.far_y ∙ chosen r.later_y block 1 4) (list 1) (list 4)) in
    let z = spans_by true (λ (b : Extent). coarse b.low.z) (far r.later_z (λ (b : Extent). coarse b.low.z) (λ (b : Extent). coarse b.high.z)) (coarse r.low.z) (coarse r.high.z) bs (side 2) (side 5) (coarse_fits r.low.z) (coarse_fits r.high.z) long
    (all_fit (λ b. b.low.z) bs) (far_fit true r.later_z (λ (b : Extent). coarse b.low.z) (λ (b : Extent). coarse b.high.z) bs (all_fit (λ b. b.low.z) bs) (all_fit (λ b. b.high.z) bs))
    (list 2) (far_list r.later_z (λ (b : Extent). coarse b.low.z) (λ (b : Extent). coarse b.high.z) bs (ap (λ n. get_or block n []) c.requires.rough.far_z ∙ chosen r.later_z block 2 5) (list 2) (list 5)) in
    let whole = masked true (may_meet r) bs long (and_also true _ _ bs (and_also true _ _ bs x y) z) in
    λ m h k.
    ap (λ w. w % 2 ^ m) whole ∙ padded_bits (may_meet r) (drop at boxes) m h (omega (arith, k, ap length n, length-drop at boxes))
    ∙ ap (λ l. mask_l (map (may_meet r) (take m (drop at l)))) (sym n)
