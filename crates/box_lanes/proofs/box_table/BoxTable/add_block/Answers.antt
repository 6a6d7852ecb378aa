use Rattle.std.proofs.Common.{◌≡◌, ◌+◌, ◌-◌, ◌*◌, ◌/◌, ◌%◌, ◌^◌, ◌≤◌, ◌++◌, length, map, take, drop, sym, ap, ◌∙◌, arith, append-nil}
use Rattle.std.specs.Prelude.{min}
use lib.Lanes.{mask_l}
use Rattle.box_lanes.specs.CoarseBoxes.{meets, may_meet}
use Rattle.box_lanes.proofs.Coarse.{none_meets, shifted_out}
use Rattle.box_lanes.proofs.Places.{finished}
use Rattle.box_lanes.proofs.Bits.{bits_of, part_none, part_done}
use Rattle.box_lanes.proofs.box_table.BoxTable.add_block.Goals as goal

pub returns-then-lanes-eq0 : goal.returns-then-lanes-eq0
returns-then-lanes-eq0 c =
    let a = c.args in
    let p = meets a.reach.now in
    let boxes = a.self.now in
    let items = a.places.now.items in
    let at = a.block * 8 in
    let end = min (a.block * 8 + 8) (length boxes) in
    let begun : at ≤ a.from = omega (arith, c.requires.block) in
    let left : a.from ≤ end = omega (arith, c.requires.block, c.requires.from) in
    let within : end ≤ length boxes = omega arith in
    let few : end - at ≤ 8 = omega arith in
    let on : at + (end - at) ≤ length boxes = omega (arith, begun, left, within) in
    let away : a.from - at ≡ a.from % 8 = omega (arith, c.requires.block) in
    let bits = bits_of (may_meet a.reach.now) boxes at a.from end c.coarse_lanes.result begun left (c.coarse_lanes.ensures (end - at) few on) in
    let rough : mask_l (map (may_meet a.reach.now) (take (end - a.from) (drop a.from boxes))) ≡ 0 =
    sym bits ∙ shifted_out c.coarse_lanes.result (a.from - at) (end - at) (ap (λ k. c.coarse_lanes.result / 2 ^ k) away ∙ c.if-lanes-eq0.true) in
    let none : mask_l (map p (take (end - a.from) (drop a.from boxes))) ≡ 0 = none_meets a.reach.now (take (end - a.from) (drop a.from boxes)) rough in
    sym (ap (λ l. items ++ l) (part_done p boxes a.from end a.from (omega arith) left within (finished p boxes end a.from left within none) ∙ part_none p boxes a.from a.from (omega arith)) ∙ append-nil items)
