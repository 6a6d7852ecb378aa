use Rattle.std.proofs.Common.{◌∷◌, [], Some, ◌-◌}
use Rattle.p21_values.specs.declared.limits.TheConstants.{MOST_DEPTH}
use Rattle.p21_values.specs.Grammar.{T, Open, Inside}
use Rattle.p21_reader.proofs.Steps.{residual, fails_under}
use Rattle.p21_reader.proofs.Inwards.{opens_passes}
use Rattle.p21_reader.proofs.passing.pass_one.Goals as goal

pub returns-in_err-open-clause-passes : goal.returns-in_err-open-clause-passes
returns-in_err-open-clause-passes c =
    rw (residual _ _ c.from_residual.ensures.1) (fails_under (T Open ∷ []) (Inside (Some (MOST_DEPTH - 2)) ∷ []) c.args.bytes.now c.args.at c.in_err-open.field-0.0 c.in_err-open.ensures.expects)

pub returns-clause-passes : goal.returns-clause-passes
returns-clause-passes c = opens_passes (MOST_DEPTH - 2) c.args.bytes.now c.args.at c.in_ok-open.open c.pass_inside.result c.in_ok-open.ensures.expects c.pass_inside.ensures.passes
