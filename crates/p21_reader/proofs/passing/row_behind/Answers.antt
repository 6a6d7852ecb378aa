use Rattle.std.proofs.Common.{arith}
use Rattle.std.proofs.lemmas.Option.{IfSome_then}
use Rattle.p21_reader.proofs.RowLemmas.{row_behind_comma}
use Rattle.p21_reader.proofs.passing.row_behind.Goals as goal

pub returns-clause-row : goal.returns-clause-row
returns-clause-row c =
    IfSome_then c.row_end.result c.row_end.ensures.row
    (λ end h. row_behind_comma c.args.bytes.now c.args.at end c.if-at-bytes.false c.if-bytes-at-ne44.false c.if-bytes-at-ne40.false h)

pub returns-clause-on : goal.returns-clause-on
returns-clause-on c = IfSome_then c.row_end.result c.row_end.ensures.on (λ end h. omega (arith, h))
