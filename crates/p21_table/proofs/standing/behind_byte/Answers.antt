use Rattle.std.proofs.Common.{◌≡◌, get_or, rules}
use Rattle.p21_table.proofs.Waiting.{open_left, close_left, plain_left, plain_byte}
use Rattle.p21_table.proofs.standing.behind_byte.Goals as goal

pub returns-in-40-clause-leaves : goal.returns-in-40-clause-leaves
returns-in-40-clause-leaves c = λ ls end h w. open_left c.args.bytes.now c.args.at c.args.depth end ls c.requires.at c.in-40.is c.requires.some h w

pub returns-in-41-clause-leaves : goal.returns-in-41-clause-leaves
returns-in-41-clause-leaves c = λ ls end h w. close_left c.args.bytes.now c.args.at c.args.depth end ls c.requires.at c.in-41.is c.requires.some h w

pub returns-in_default-clause-leaves : goal.returns-in_default-clause-leaves
returns-in_default-clause-leaves c =
    let b = get_or c.args.bytes.now c.args.at 0 in
    let slash : b ≡ 47 → ⊥ = search rules in
    let plain = plain_byte b (search rules) (search rules) (search rules) slash in
    λ ls end h w. plain_left c.args.bytes.now c.args.at c.args.depth end ls c.requires.at plain slash c.requires.some h w
