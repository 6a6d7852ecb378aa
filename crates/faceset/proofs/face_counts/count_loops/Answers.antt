use Rattle.std.proofs.Common.{ap, length, arith}
use Rattle.p21_values.proofs.Turns.{so_far, turn}
use Rattle.faceset.proofs.Rows.{added_front}
use Rattle.faceset.proofs.face_counts.count_loops.Goals as goal

pub returns-then-more-most-clause-none : goal.returns-then-more-most-clause-none
returns-then-more-most-clause-none c =
    let front = so_far c.args.rows.now c.loop-row.yielded (cc) _ c.loop-row.yielded_by in
    let t = turn c.args.rows.now c.loop-row.yielded (cc) _ c.loop-row.yielded_by _ c.in-Some.is c.next.ensures.steps in
    let part = added_front c.args.rows.now c.loop-row.yielded c.in-Some.row front t.0 t.1 in
    let sum = c.loop-row.invariant.0 in
    let most = c.loop-row.invariant.1 in
    let long = ap length c.items_in.ensures in
    let count = c.len.ensures.count in
    let past = c.if-more-most.true in
    omega (arith, part, sum, most, long, count, past)
