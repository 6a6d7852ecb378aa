use Rattle.p21_table.proofs.FirstBytesThere.{leaves_some}
use Rattle.p21_table.proofs.first_byte.behind_one.Goals as goal

pub returns-clause-behind : goal.returns-clause-behind
returns-clause-behind c = leaves_some c.args.bytes.now c.args.at c.in_ok-end.end c.sign_behind.result c.in_ok-end.ensures c.sign_behind.ensures.next
