use Rattle.std.proofs.Common.{sym, ◌∙◌}
use Rattle.ifc_units.proofs.ScaleFacts.{unmeasured, unconverted}
use Rattle.ifc_units.proofs.conversion.converted_scale.Goals as goal

pub returns-in_default-measured_length-clause-none : goal.returns-in_default-measured_length-clause-none
returns-in_default-measured_length-clause-none c =
    unmeasured c.args.exchange.now c.args.unit.now c.in-Some.measure (sym c.target_at.ensures ∙ c.in-Some.is) c.in_default-measured_length.ensures.none

pub returns-in-None-clause-none : goal.returns-in-None-clause-none
returns-in-None-clause-none c =
    unconverted c.args.exchange.now c.args.unit.now c.in-Some.measure _ (sym c.target_at.ensures ∙ c.in-Some.is) c.in-Some-measured_length.ensures.some (sym c.in-None.ensures.is)
