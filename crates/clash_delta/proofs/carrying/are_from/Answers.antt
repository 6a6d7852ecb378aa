use Rattle.std.proofs.Common.{arith}
use Rattle.clash_delta.proofs.Before.{from_more}
use Rattle.clash_delta.proofs.carrying.are_from.Goals as goal

pub loop-place-preserved : goal.loop-place-preserved
loop-place-preserved c =
    let t = c.loop-place-test.true in
    let n = c.if-old-new.false in
    from_more c.args.numbers.now c.args.old.now c.args.new.now c.loop-place.place (omega (arith, t, n)) (omega (arith, t)) c.loop-place.invariant (c.is_number.ensures.0 c.if-not-is_number.false)
