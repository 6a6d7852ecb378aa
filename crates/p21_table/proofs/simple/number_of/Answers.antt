use Rattle.std.proofs.Common.{◌≤◌, arith, drop}
use Rattle.p21_lexer.specs.Spelling.{value_after}
use Rattle.p21_lexer.specs.declared.limits.TheConstants.{GREATEST_NAME}
use Rattle.p21_values.proofs.Contents.{digit_bound}
use Rattle.p21_table.proofs.simple.number_of.Goals as goal

pub overflow_mul-value : goal.overflow_mul-value
overflow_mul-value c =
    let le : value_after c.loop-digit.value (drop c.loop-digit.digit-index c.args.digits.now) ≤ GREATEST_NAME = omega (arith, c.loop-digit.invariant, c.requires) in
    let b = digit_bound c.loop-digit.value GREATEST_NAME c.args.digits.now c.loop-digit.digit-index 0 c.loop-digit-test.true le in
    omega (arith, b)

pub overflow_add-value : goal.overflow_add-value
overflow_add-value c =
    let le : value_after c.loop-digit.value (drop c.loop-digit.digit-index c.args.digits.now) ≤ GREATEST_NAME = omega (arith, c.loop-digit.invariant, c.requires) in
    let b = digit_bound c.loop-digit.value GREATEST_NAME c.args.digits.now c.loop-digit.digit-index 0 c.loop-digit-test.true le in
    omega (arith, b, c.saturating_sub.ensures)
