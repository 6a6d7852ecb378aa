use Rattle.std.proofs.Common.{rules}
use Rattle.model_build.specs.LengthFaults.{LengthFault}
use Rattle.model_build.proofs.FirstLengthFault.{least_here, none_more, none_at_all}
use Rattle.model_build.proofs.length_faults.first_length_fault.Goals as goal

pub returns-in-Some : goal.returns-in-Some
returns-in-Some c =
    least_here (LengthFault c.args.exchange.now c.args.scale c.args.mode) c.args.ids.now c.loop-id.id-index c.told.result c.requires.rises c.loop-id-test.true c.loop-id.invariant
    (c.in-Some.refused, c.told.ensures, c.in-Some.ensures)

pub loop-id-preserved : goal.loop-id-preserved
loop-id-preserved c = none_more (LengthFault c.args.exchange.now c.args.scale c.args.mode) c.args.ids.now c.loop-id.id-index c.loop-id.invariant (λ fault f. c.in_default.ensures f.0 f.2)

pub returns : goal.returns
returns c = none_at_all (LengthFault c.args.exchange.now c.args.scale c.args.mode) c.args.ids.now c.loop-id.id-index (search rules) c.loop-id.invariant
