use Rattle.p21_table.proofs.FirstBytesThere.{text_told}
use Rattle.p21_table.proofs.first_byte.text_by_byte.Goals as goal

pub returns : goal.returns
returns c = λ v s. text_told c.args.bytes.now c.args.at c.in_ok-byte.byte v c.in_ok-byte.ensures s
