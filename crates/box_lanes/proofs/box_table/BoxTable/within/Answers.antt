use Rattle.std.proofs.Common.{◌≡◌, ◌++◌, ℕ, ℤ, pos, negsuc, ◌+ℤ◌, int_le, leb, false, cond, refl, ◌&&◌, ap, ap₂, ◌∙◌, arith}
use Rattle.std.specs.Int.{w32}
use Rattle.std.proofs.lemmas.Int.{ints}
use lib.Signed.{lt_z}
use mir.Val.{SFits}
use Rattle.bim_model.specs.declared.geometry.Extent.{Extent}
use Rattle.bim_model.specs.declared.geometry.Point.{Point}
use Rattle.std.proofs.lemmas.List.Elements.{All-weaker}
use Rattle.bim_model.specs.Gaps.{gap, is_within}
use Rattle.box_lanes.specs.CoarseBoxes.{meets, Fits32}
use Rattle.box_lanes.specs.BoxPlaces.{places_from, is_close_from, is_within_from}
use Rattle.box_lanes.proofs.Places.{places_agree}
use Rattle.box_lanes.proofs.box_table.BoxTable.within.Goals as goal

lowest : (l : ℤ) → SFits w32 l → lt_z l (negsuc 2147483647) ≡ false
lowest (pos a) L = refl
lowest (negsuc a) L = let f = L.sfits in grind (arith, ints, f)

-- where no probe begins before the start
start_on : (low high l h : ℤ) (g : ℕ) → SFits w32 l → is_close_from (negsuc 2147483647) g low high l h ≡ leb (gap low high l h) g
start_on low high l h g L =
    let none : lt_z l (negsuc 2147483647) ≡ false = lowest l L in
    ap (λ b. cond b (int_le low (h +ℤ pos g) && int_le (negsuc 2147483647) low) (leb (gap low high l h) g)) none

pub returns : goal.returns
returns c =
    let p = c.args.probe.now in
    let g = c.args.grow in
    let met = meets c.reach_of-reach.result in
    let near = is_within p g in
    let fits = c.len.ensures.fits in
    let probe = c.reach_of-reach.ensures.fits in
    let least : Point = record { x = negsuc 2147483647; y = negsuc 2147483647; z = negsuc 2147483647 } in
    let all : (b : Extent) → is_within_from least g p b ≡ near b = λ b.
    ap₂ (λ x y. x && y) (ap₂ (λ x y. x && y) (start_on b.low.x b.high.x p.low.x p.high.x g probe.low_x) (start_on b.low.y b.high.y p.low.y p.high.y g probe.low_y)) (start_on b.low.z b.high.z p.low.z p.high.z g probe.low_z) in
    c.in_ok-add_from.ensures ∙ ap (λ l. l ++ places_from 0 met c.args.self.now) c.new-places.ensures.items
    ∙ places_agree met near 0 c.args.self.now (All-weaker Fits32 (λ b. met b ≡ near b) (λ b f. c.reach_of-reach.ensures.meets b f ∙ all b) c.args.self.now fits)
