use Rattle.p21_table.proofs.FirstBytesThere.{absent_there, derived_there}
use Rattle.p21_table.proofs.first_byte.absent_by_byte.Goals as goal

pub returns-then-byte-eq36 : goal.returns-then-byte-eq36
returns-then-byte-eq36 c = λ v s. absent_there c.args.bytes.now c.args.at c.in_ok-byte.byte v c.in_ok-byte.ensures c.if-byte-eq36.true s

pub returns-else-byte-eq36 : goal.returns-else-byte-eq36
returns-else-byte-eq36 c = λ v s. derived_there c.args.bytes.now c.args.at c.in_ok-byte.byte v c.in_ok-byte.ensures c.if-byte-eq36.false s
