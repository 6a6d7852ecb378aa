use Rattle.std.proofs.Common.{rules}
use Rattle.faceset.proofs.Decimals.{by_sign, by_fraction, by_power, by_digits}
use Rattle.faceset.proofs.indexes.small_number.Goals as goal

pub returns-then-decimal-clause-none : goal.returns-then-decimal-clause-none
returns-then-decimal-clause-none c = λ n low h. by_sign c.args.decimal.negative c.args.decimal.digits n c.args.decimal.exp c.if-decimal.true c.args.decimal.zero_sign h

pub returns-then-decimal-lt0-clause-none : goal.returns-then-decimal-lt0-clause-none
returns-then-decimal-lt0-clause-none c = λ n low h. by_fraction c.args.decimal.negative c.args.decimal.digits n c.args.decimal.exp c.if-decimal.false (search rules) c.args.decimal.stripped c.args.decimal.zero_exp h

pub returns-then-decimal-gt18-clause-none : goal.returns-then-decimal-gt18-clause-none
returns-then-decimal-gt18-clause-none c = λ n low h. by_power c.args.decimal.negative c.args.decimal.digits n c.args.decimal.exp c.if-decimal.false (search rules) c.args.decimal.zero_exp low h

pub returns-then-decimal-ge-LIMIT-clause-none : goal.returns-then-decimal-ge-LIMIT-clause-none
returns-then-decimal-ge-LIMIT-clause-none c = λ n low h. by_digits c.args.decimal.negative c.args.decimal.digits n c.args.decimal.exp c.if-decimal.false (search rules) (search rules) low h
