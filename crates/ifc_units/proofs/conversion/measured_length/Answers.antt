use Rattle.std.proofs.Common.{◌≡◌, sym, ◌∙◌, arith, to_z, of_z, w32}
use Rattle.std.proofs.lemmas.Int.{ints}
use Rattle.ifc_units.proofs.ScaleFacts.{measure_is}
use Rattle.ifc_units.proofs.conversion.measured_length.Goals as goal

pub returns-in-Some-metric_power-clause-some : goal.returns-in-Some-metric_power-clause-some
returns-in-Some-metric_power-clause-some c =
    let power = c.in-Some-metric_power.power in
    let read = to_z w32 (of_z w32 power) in
    let same : read ≡ power = omega (arith, ints) in
    measure_is c.args.exchange.now c.args.measure.now c.in-Some.value c.in-Some-measure.bytes.now c.in-Some-read.number c.in-Some-target_at.base power read (sym c.includes.ensures ∙ c.if-not-includes.false)
    (sym c.attribute.ensures ∙ c.in-Some.is) (sym c.in-Some-measure.ensures) c.in-Some-read.ensures.value (sym c.target_at.ensures ∙ c.in-Some-target_at.is) (sym c.metric_power.ensures.is ∙ c.in-Some-metric_power.is) same
