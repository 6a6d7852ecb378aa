use Rattle.p21_table.proofs.RowsThere.{behind_comma, behind_close}
use Rattle.p21_table.proofs.standing.sign_behind.Goals as goal

pub returns-then-bytes-end-eq44-clause-next : goal.returns-then-bytes-end-eq44-clause-next
returns-then-bytes-end-eq44-clause-next c = λ vs h. behind_comma c.args.bytes.now c.args.end vs c.if-end-bytes.false c.if-bytes-end-eq44.true h

pub returns-then-bytes-end-eq41-clause-next : goal.returns-then-bytes-end-eq41-clause-next
returns-then-bytes-end-eq41-clause-next c = λ vs h. behind_close c.args.bytes.now c.args.end vs c.if-end-bytes.false c.if-bytes-end-eq41.true h
