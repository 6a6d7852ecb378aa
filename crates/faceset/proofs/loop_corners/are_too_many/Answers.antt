use Rattle.std.proofs.Common.{ap, length, arith}
use Rattle.p21_values.proofs.Turns.{so_far, turn}
use Rattle.faceset.proofs.Rows.{total_front}
use Rattle.faceset.proofs.loop_corners.are_too_many.Goals as goal

pub returns-then-count-gt-MOST_CORNERS : goal.returns-then-count-gt-MOST_CORNERS
returns-then-count-gt-MOST_CORNERS c =
    let front = so_far c.args.rows.now c.loop-row.yielded (cc) _ c.loop-row.yielded_by in
    let t = turn c.args.rows.now c.loop-row.yielded (cc) _ c.loop-row.yielded_by _ c.in-Some.is c.next.ensures.steps in
    let part = total_front c.args.rows.now c.loop-row.yielded c.in-Some.row front t.0 t.1 in
    let sum = c.loop-row.invariant.0 in
    let long = ap length c.items_in.ensures in
    let count = c.len-count.ensures.count in
    let past = c.if-count-gt-MOST_CORNERS.true in
    omega (arith, part, sum, long, count, past)
