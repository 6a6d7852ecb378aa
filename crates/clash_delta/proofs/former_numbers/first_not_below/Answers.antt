use Rattle.std.proofs.Common.{length, ap, arith}
use Rattle.bucket_grid.specs.ElementPlaces.{IsPlace}
use Rattle.bucket_grid.proofs.Zips.{zip_length}
use Rattle.clash_delta.specs.inner.ElementNumbers.{subject_of}
use Rattle.clash_delta.proofs.Keys.{not_below}
use Rattle.clash_delta.proofs.former_numbers.first_not_below.Goals as goal

pub returns-else-is_lt-clause-reached : goal.returns-else-is_lt-clause-reached
returns-else-is_lt-clause-reached c =
    let n = zip_length (IsPlace _) _ _ c.places-count.ensures.placed in
    let m = ap length c.places-count.ensures.places in
    record {
      within = omega (arith, n, m, c.loop-number.invariant.within);
      below = c.loop-number.invariant.below;
      first = λ h. not_below (subject_of c.args.before.now c.loop-number.number) (subject_of c.args.after.now c.args.new) c.key_order.result c.is_lt.result c.key_order.ensures c.is_lt.ensures c.if-is_lt.false;
    }

pub returns-after-loop-number-clause-reached : goal.returns-after-loop-number-clause-reached
returns-after-loop-number-clause-reached c =
    let n = zip_length (IsPlace _) _ _ c.places-count.ensures.placed in
    let m = ap length c.places-count.ensures.places in
    record {
      within = omega (arith, n, m, c.loop-number.invariant.within);
      below = c.loop-number.invariant.below;
      first = λ h. absurd (omega (arith, h, n, c.loop-number-test.false));
    }
