use Rattle.p21_table.proofs.FirstBytesThere.{items_there, no_items_there}
use Rattle.p21_table.proofs.first_byte.inside_by_byte.Goals as goal

pub returns-then-byte-eq40-clause-inside : goal.returns-then-byte-eq40-clause-inside
returns-then-byte-eq40-clause-inside c = λ v s. items_there c.args.bytes.now c.args.at c.in_ok-byte.byte v c.in_ok-byte.ensures c.if-byte-eq40.true s

pub returns-else-byte-eq40-clause-inside : goal.returns-else-byte-eq40-clause-inside
returns-else-byte-eq40-clause-inside c = λ v s. no_items_there c.args.bytes.now c.args.at c.in_ok-byte.byte v c.in_ok-byte.ensures c.if-byte-eq40.false s
