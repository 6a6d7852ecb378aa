use Rattle.std.proofs.Common.{◌≡◌, pos, ◌-ℤ◌, ◌≤ℤ◌, w64, to_z, of_z, arith}
use Rattle.std.proofs.lemmas.Int.{ints}
use Rattle.box_lanes.proofs.Spans.{other_side, difference}
use Rattle.box_lanes.proofs.plain.is_close.Goals as goal

pub returns-then-above-grow : goal.returns-then-above-grow
returns-then-above-grow c =
    let a = c.args in
    let first : (a.low -ℤ a.other_high) ≤ℤ pos a.grow = omega (arith, ints, c.from.ensures, c.from-2.ensures, c.from-grow.ensures) in
    let below : to_z w64 (of_z w64 (to_z w64 (of_z w64 c.from-3.result) -ℤ to_z w64 (of_z w64 c.from-4.result))) ≡ a.other_low -ℤ a.high = difference a.other_low a.high _ _ c.ranges.other_low c.ranges.high c.from-3.ensures c.from-4.ensures in
    let grow : to_z w64 (of_z w64 c.from-grow.result) ≡ pos a.grow = omega (arith, ints, c.from-grow.ensures) in
    other_side a.low a.high a.other_low a.other_high a.grow _ _ first below grow
