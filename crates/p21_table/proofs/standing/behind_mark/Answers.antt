use Rattle.p21_table.proofs.Waiting.{text_left, comment_left, missing_left}
use Rattle.p21_table.proofs.standing.behind_mark.Goals as goal

pub returns-then-next-at-clause-leaves : goal.returns-then-next-at-clause-leaves
returns-then-next-at-clause-leaves c = λ ls end h w. text_left c.args.bytes.now c.args.at c.args.depth end ls c.in-Ok.next.token c.requires.mark c.if-next-at.true c.in-Ok.ensures.cuts c.requires.some h w

pub returns-else-next-at-clause-leaves : goal.returns-else-next-at-clause-leaves
returns-else-next-at-clause-leaves c = λ ls end h w. comment_left c.args.bytes.now c.args.at c.args.depth end ls c.in-Ok.next.token c.requires.mark c.in-Ok.ensures.cuts c.requires.some h w

pub returns-in-Err-clause-leaves : goal.returns-in-Err-clause-leaves
returns-in-Err-clause-leaves c = λ ls end h w. missing_left c.args.bytes.now c.args.at c.args.depth end ls c.in-Err.field-0 c.requires.mark c.in-Err.ensures.fault c.requires.some h w
