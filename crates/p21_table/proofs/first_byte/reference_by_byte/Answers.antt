use Rattle.p21_table.proofs.FirstBytesThere.{reference_there, no_reference_there}
use Rattle.p21_table.proofs.first_byte.reference_by_byte.Goals as goal

pub returns-then-byte-ne35 : goal.returns-then-byte-ne35
returns-then-byte-ne35 c = λ v s. no_reference_there c.args.bytes.now c.args.at c.in_ok-byte.byte v c.in_ok-byte.ensures c.if-byte-ne35.true s

pub returns-in-Some : goal.returns-in-Some
returns-in-Some c = λ v s. reference_there c.args.bytes.now c.args.at c.in-Some.name v c.in-Some.ensures s
