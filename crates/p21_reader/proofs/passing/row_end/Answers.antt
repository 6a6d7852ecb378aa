use Rattle.std.proofs.Common.{arith}
use Rattle.std.proofs.lemmas.Option.{IfSome_then}
use Rattle.p21_reader.proofs.RowLemmas.{three_numbers}
use Rattle.p21_reader.proofs.passing.row_end.Goals as goal

pub returns-clause-row : goal.returns-clause-row
returns-clause-row c =
    IfSome_then c.number_before-3.result c.number_before-3.ensures.cuts
    (λ end h. three_numbers c.args.bytes.now c.args.at c.in_ok-second.second c.in_ok-third.third end c.in_ok-second.ensures.cuts c.in_ok-third.ensures.cuts h)

pub returns-clause-on : goal.returns-clause-on
returns-clause-on c = IfSome_then c.number_before-3.result c.number_before-3.ensures.on (λ end h. omega (arith, h, c.in_ok-second.ensures.on, c.in_ok-third.ensures.on))
