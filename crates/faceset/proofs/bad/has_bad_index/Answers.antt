use Rattle.faceset.proofs.Badness.{bad_rows_in}
use Rattle.faceset.proofs.bad.has_bad_index.Goals as goal

pub returns-clause-bad : goal.returns-clause-bad
returns-clause-bad c =
    bad_rows_in c.args.exchange.now c.args.set.now c.numbering-numbers.result c.in_ok-count.count c.counted_by.result c.has_bad_rows.result
    c.numbering-numbers.ensures c.in_ok-count.ensures.count c.counted_by.ensures.value c.if-has_bad_number.ensures c.has_bad_rows.ensures.bad
