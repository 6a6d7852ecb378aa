use Rattle.std.proofs.Common.{arith}
use Rattle.geometry_tests.proofs.LoopCounts.{loops_more, count_more}
use Rattle.geometry_tests.proofs.bridge_tests.loops.Goals as goal

pub loop-corners-preserved : goal.loop-corners-preserved
loop-corners-preserved c =
    let made = c.loop-corners.made.items in
    let new = c.in_ok-polygon.field-0 in
    record {
      loops =
          loops_more (λ v. v.items) made new c.push.new.self.items c.in_ok-push.ensures.items c.loop-corners.invariant.loops
          (record { three = omega (arith, c.in_ok-polygon.ensures.count, c.if-corners-lt3.false); in_grid = c.in_ok-polygon.ensures.in_grid });
      count =
          let more = count_more (λ v. v.items) made new c.push.new.self.items c.in_ok-push.ensures.items in
          omega (arith, more, c.loop-corners.invariant.count, c.in_ok-polygon.ensures.count, c.if-left-corners.false);
    }
