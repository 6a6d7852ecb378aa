use Rattle.std.proofs.Common.{◌∙◌, rules, slice_range}
use Rattle.p21_table.proofs.FirstTokens.{number_by, number_here, no_number}
use Rattle.p21_table.proofs.standing.number_there.Goals as goal

pub returns-in-Number : goal.returns-in-Number
returns-in-Number c = λ v b. number_here c.args.bytes.now c.args.first.token c.in-Number.is ∙ number_by c.args.bytes.now c.args.first.token v b

pub returns-in_default : goal.returns-in_default
returns-in_default c = λ v b.
    let t = c.args.first.token in
    no_number t.kind (slice_range c.args.bytes.now t.start t.end) (search rules) ∙ number_by c.args.bytes.now t v b
