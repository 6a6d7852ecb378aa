use Rattle.std.proofs.Common.{◌<◌, length, arith}
use Rattle.std.proofs.lemmas.Grind.{common_steps}
use Rattle.http_frame.proofs.HeadFacts.{named_user, no_user}
use Rattle.http_frame.proofs.facts.user_in.Goals as goal

pub returns-in-Ok : goal.returns-in-Ok
returns-in-Ok c =
    let some : 0 < length c.args.value.now = grind (arith, common_steps) in
    let is = named_user c.args.value.now some c.if-value-gt-MOST_USER.false c.in-Ok.ensures.cases.1 in
    rw (is, ← c.in-Ok.ensures.cases.0) c.of-in-Ok.ensures

pub returns-in-Err : goal.returns-in-Err
returns-in-Err c =
    let is = no_user c.args.value.now c.in-Err.ensures.cases.0 in
    rw is c.of-in-Err.ensures
