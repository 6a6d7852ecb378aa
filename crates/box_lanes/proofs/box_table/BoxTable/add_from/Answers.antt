use Rattle.std.proofs.Common.{◌≡◌, ◌+◌, ◌*◌, ◌/◌, ◌<◌, ◌++◌, length, sym, ap, ◌∙◌, arith, append_assoc}
use Rattle.std.specs.Prelude.{min}
use Rattle.box_lanes.proofs.Eights.{count_is}
use Rattle.box_lanes.specs.CoarseBoxes.{meets}
use Rattle.box_lanes.specs.BoxPlaces.{part}
use Rattle.box_lanes.proofs.Bits.{part_more}
use Rattle.box_lanes.proofs.box_table.BoxTable.add_from.Goals as goal

pub loop-block-init : goal.loop-block-init
loop-block-init c =
    let a = c.args in
    let there : min ((a.from / 8 + 1) * 8) (length a.self.now) ≡ min (a.from / 8 * 8 + 8) (length a.self.now) = omega arith in
    record {
      low = omega arith;
      high = omega (arith, c.requires);
      found = c.in_ok-add_block.ensures ∙ ap (λ m. a.places.now.items ++ part (meets a.reach.now) a.self.now a.from m) (sym there);
    }

pub loop-block-preserved : goal.loop-block-preserved
loop-block-preserved c =
    let a = c.args in
    let l = c.loop-block in
    let p = meets a.reach.now in
    let boxes = a.self.now in
    let items = a.places.now.items in
    let at = l.block * 8 in
    let end = min (l.block * 8 + 8) (length boxes) in
    let count = sym (ap length c.self.view_is) ∙ count_is c.self.inside c.self.invariant in
    let before : at < length boxes = omega (arith, count, c.loop-block-test.true) in
    let here : min at (length boxes) ≡ at = omega (arith, before) in
    let there : min ((l.block + 1) * 8) (length boxes) ≡ end = omega arith in
    record {
      low = omega (arith, l.invariant.low);
      high = omega (arith, before);
      found =
          c.in_ok-add_block-2.ensures ∙ ap (λ ps. ps ++ part p boxes at end) (l.invariant.found ∙ ap (λ m. items ++ part p boxes a.from m) here)
          ∙ append_assoc items (part p boxes a.from at) (part p boxes at end)
          ∙ ap (λ ps. items ++ ps) (sym (part_more p boxes a.from at end (omega (arith, l.invariant.low)) (omega (arith, before)) (omega arith)))
          ∙ ap (λ m. items ++ part p boxes a.from m) (sym there);
    }
