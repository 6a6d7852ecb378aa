use Rattle.std.proofs.Common.{length, ◌≤◌, arith}
use Rattle.std.proofs.lemmas.Int.{ints}
use Rattle.box_lanes.specs.BoxPlaces.{nowhere}
use Rattle.bucket_grid.proofs.LyingInCells.{above_more, below_more, lie_between}
use Rattle.bucket_grid.proofs.axis_cells.range_on.Goals as goal

pub loop-extent-preserved : goal.loop-extent-preserved
loop-extent-preserved c =
    let m = c.lower-least.ensures in
    let n = c.higher-greatest.ensures in
    let i = c.loop-extent.invariant in
    record {
      above = above_more c.args.axis _ _ c.low_on.result c.args.boxes.now c.loop-extent.extent-index nowhere c.loop-extent-test.true i.above (omega (arith, ints, m.a)) c.low_on.ensures.is (omega (arith, ints, m.b));
      below = below_more c.args.axis _ _ c.high_on.result c.args.boxes.now c.loop-extent.extent-index nowhere c.loop-extent-test.true i.below (omega (arith, ints, n.a)) c.high_on.ensures.is (omega (arith, ints, n.b));
      least_small = omega (arith, ints, m.small);
      greatest_small = omega (arith, ints, n.small);
      near = i.near;
    }

pub returns-clause-lie : goal.returns-clause-lie
returns-clause-lie c =
    let done : length c.args.boxes.now ≤ c.loop-extent.extent-index = omega (arith, c.loop-extent-test.false) in
    lie_between c.args.axis _ _ _ _ c.args.boxes.now c.loop-extent.extent-index done c.loop-extent.invariant.above c.loop-extent.invariant.below (omega (arith, ints, c.first_cell-low.ensures.is)) (omega (arith, ints, c.last_cell-high.ensures.is))

-- no box, or one that is turned round
pub returns-then-high-low-clause-lie : goal.returns-then-high-low-clause-lie
returns-then-high-low-clause-lie c =
    let done : length c.args.boxes.now ≤ c.loop-extent.extent-index = omega (arith, c.loop-extent-test.false) in
    lie_between c.args.axis _ _ _ _ c.args.boxes.now c.loop-extent.extent-index done c.loop-extent.invariant.above c.loop-extent.invariant.below (omega (arith, ints, c.first_cell-low.ensures.is)) (omega (arith, ints, c.first_cell-low.ensures.small, c.last_cell-high.ensures.is, c.if-high-low.true))
