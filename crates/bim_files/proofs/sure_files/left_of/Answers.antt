use Rattle.std.proofs.Common.{arith}
use Rattle.std.proofs.lemmas.Result.{IfOk-weaker}
use Rattle.bim_files.proofs.Lending.{lent_some}
use Rattle.bim_files.proofs.sure_files.left_of.Goals as goal

pub returns-in-Some-clause-free : goal.returns-in-Some-clause-free
returns-in-Some-clause-free c =
    let some = lent_some c.args.lent.now c.args.name.now c.in-Some.field-0 c.in-Some.ensures.found in
    IfOk-weaker c.of.result _ _ (λ left is none. absurd (omega (arith, some, none))) c.of.ensures
