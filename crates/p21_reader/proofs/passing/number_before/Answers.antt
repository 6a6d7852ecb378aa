use Rattle.std.proofs.Common.{arith}
use Rattle.p21_reader.proofs.RowLemmas.{number_sign}
use Rattle.p21_reader.proofs.passing.number_before.Goals as goal

pub returns-clause-cuts : goal.returns-clause-cuts
returns-clause-cuts c = number_sign c.args.bytes.now c.args.at c.in_ok-end.end c.args.sign c.requires c.in_ok-end.ensures c.if-end-bytes.false c.if-bytes-end.false

pub returns-clause-on : goal.returns-clause-on
returns-clause-on c = omega (arith, c.in_ok-end.ensures.0.1)
