use Rattle.faceset.proofs.Decimals.{some_writes, none_writes}
use Rattle.faceset.proofs.indexes.number_written.Goals as goal

pub returns-in-Some-clause-some : goal.returns-in-Some-clause-some
returns-in-Some-clause-some c = some_writes c.args.bytes.now c.in-Some.decimal c.small_number.result c.in-Some.ensures.value c.small_number.ensures.some

pub returns-in-Some-clause-none : goal.returns-in-Some-clause-none
returns-in-Some-clause-none c = none_writes c.args.bytes.now c.in-Some.decimal c.small_number.result c.in-Some.ensures.value c.small_number.ensures.none
